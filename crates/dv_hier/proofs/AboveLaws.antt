-- Checks one after another: of what a class names, and of all classes.
use Rattle.std.proofs.Common.{◌≡◌, ◌+◌, ◌<◌, ℕ, zero, suc, Bool, true, false, List, [], ◌∷◌, length, take, ◌≤◌, ◌||◌, Option, Some, None, Result, get_or, refl, sym, ap, ◌∙◌, add-one, arith}
use Rattle.std.specs.Prelude.{slice_get, option_map}
use Rattle.std.specs.Option.{option_or}
use Rattle.std.specs.List.{list_any}
use Rattle.std.proofs.lemmas.List.{length-map, take_all}
use Rattle.std.proofs.lemmas.List.Folds.{list_any_more}
use Rattle.std.proofs.lemmas.Option.{slice_get_read, slice_get-map}
use Rattle.dv_defs.specs.declared.class.ClassDef.{ClassDef}
use Rattle.dv_defs.specs.declared.faults.LinkKind.{LinkKind}
use Rattle.dv_defs.specs.declared.faults.LinkError.{LinkError}
use Rattle.dv_defs.specs.declared.faults.LinkError.TheVariants as error
use Rattle.dv_defs.specs.declared.faults.LinkKind.TheVariants as kind
use Rattle.dv_defs.specs.First.{first_in, first_below, when}
use Rattle.dv_defs.specs.LinkFaults.{Fails, Checks, LinkTest, Found, found, fault_at, tested, first_fault_by, final_at}
use Rattle.dv_defs.specs.Numbering.{declared, class_declared}
use Rattle.dv_defs.specs.Order.{names_interface}
use Rattle.dv_defs.specs.Pools.{class_named, flags_of, is_interface}
use Rattle.dv_defs.specs.Flags.{has_flag}
use Rattle.dv_defs.specs.declared.flags.Flag.{Flag}
use Rattle.dv_defs.specs.declared.flags.Flag.TheVariants as flag
use Rattle.law_linking.specs.Stripped.{def_names}
use Rattle.law_linking.proofs.First.{or_none, map_none, first_below_more, first_below_found}

-- an error that tells one fault tells another that is found whenever the first is
told_too : (class : List ℕ) (e : LinkError) (a b : Option LinkKind) → ((k : LinkKind) → a ≡ Some k → b ≡ Some k) → Fails e (option_map (found class) a) → Fails e (option_map (found class) b)
told_too class error.Memory a b too told = tt
told_too class (error.At c k) None b too told = absurd (cc)
told_too class (error.At c k) (Some y) b too told = rw (too y refl) told

-- the first of two checks found something
pub first_told : (class : List ℕ) (e : LinkError) (a b : Option LinkKind) → Fails e (option_map (found class) a) → Fails e (option_map (found class) (option_or a b))
first_told class e a b told = told_too class e a (option_or a b) (λ k is. rw is refl) told

-- the first of two checks found nothing
pub then_checked : {Y : Type 0} (class : List ℕ) (r : Result Y LinkError) (a b : Option LinkKind) → option_map (found class) a ≡ None → Checks r (option_map (found class) b) → Checks r (option_map (found class) (option_or a b))
then_checked class r a b none checked = rw (map_none (found class) a none) checked

-- the first test of a class holds
pub kind_told : (class : List ℕ) (e : LinkError) (a : Option LinkKind) (b x f : Bool) → option_map (found class) a ≡ None → x ≡ b → x ≡ true → ((fault : Option Found) → fault ≡ Some (found class kind.SuperKind) → Fails e fault) → Fails e (option_map (found class) (option_or a (option_or (when b kind.SuperKind) (when f kind.FinalSuper))))
kind_told class e a b x f none same holds told = rw (map_none (found class) a none, ← same, holds) (told (Some (found class kind.SuperKind)) refl)

-- the second test of a class holds
pub final_kind_told : (class : List ℕ) (e : LinkError) (a : Option LinkKind) (b x f y : Bool) → option_map (found class) a ≡ None → x ≡ b → x ≡ false → y ≡ f → y ≡ true → ((fault : Option Found) → fault ≡ Some (found class kind.FinalSuper) → Fails e fault) → Fails e (option_map (found class) (option_or a (option_or (when b kind.SuperKind) (when f kind.FinalSuper))))
final_kind_told class e a b x f y none same fails also holds told =
    rw (map_none (found class) a none, ← same, fails, ← also, holds) (told (Some (found class kind.FinalSuper)) refl)

-- neither test of a class holds
pub kinds_checked : (class : List ℕ) (a : Option LinkKind) (b x f y : Bool) → option_map (found class) a ≡ None → x ≡ b → x ≡ false → y ≡ f → y ≡ false → option_map (found class) (option_or a (option_or (when b kind.SuperKind) (when f kind.FinalSuper))) ≡ None
kinds_checked class a b x f y none same fails also lacks = rw (map_none (found class) a none, ← same, fails, ← also, lacks) refl

-- one turn of a loop that found nothing
in_more : {X Y : Type 0} (f : X → Option Y) (xs : List X) (i : ℕ) (x : X) → first_in f (take i xs) ≡ None → i < length xs → x ≡ get_or xs i x → f x ≡ None → first_in f (take (suc i) xs) ≡ None
in_more f [] i x before within is none = absurd (omega arith)
in_more f (y ∷ ys) zero x before within is none = rw (← is, none) refl
in_more f (y ∷ ys) (suc i) x before within is none =
    let parts = or_none (f y) (first_in f (take i ys)) before in
    rw (parts.0) (in_more f ys i x parts.1 (omega arith) is none)

pub first_in_more : {X : Type 0} (f : X → Option LinkKind) (class : List ℕ) (xs : List X) (i : ℕ) (x : X) → first_in f (take i xs) ≡ None → i < length xs → x ≡ get_or xs i x → option_map (found class) (f x) ≡ None → first_in f (take (i + 1) xs) ≡ None
first_in_more f class xs i x before within is none = rw add-one (in_more f xs i x before within is (map_none (found class) (f x) none))

-- the turn of a loop that found something
in_found : {X Y : Type 0} (f : X → Option Y) (xs : List X) (i : ℕ) (x : X) (y : Y) → first_in f (take i xs) ≡ None → i < length xs → x ≡ get_or xs i x → f x ≡ Some y → first_in f xs ≡ Some y
in_found f [] i x y before within is some = absurd (omega arith)
in_found f (z ∷ zs) zero x y before within is some = rw (← is, some) refl
in_found f (z ∷ zs) (suc i) x y before within is some =
    let parts = or_none (f z) (first_in f (take i zs)) before in
    rw (parts.0) (in_found f zs i x y parts.1 (omega arith) is some)

pub first_in_told : {X : Type 0} (f : X → Option LinkKind) (class : List ℕ) (e : LinkError) (xs : List X) (i : ℕ) (x : X) → first_in f (take i xs) ≡ None → i < length xs → x ≡ get_or xs i x → Fails e (option_map (found class) (f x)) → Fails e (option_map (found class) (first_in f xs))
first_in_told f class e xs i x before within is told = told_too class e (f x) (first_in f xs) (λ k some. in_found f xs i x k before within is some) told

-- one turn of a loop in which no test held
pub any_more : {X : Type 0} (p : X → Bool) (xs : List X) (i : ℕ) (x : X) → list_any p (take i xs) ≡ false → i < length xs → x ≡ get_or xs i x → p x ≡ false → list_any p (take (i + 1) xs) ≡ false
any_more p xs i x before within is fails =
    list_any_more p xs i x within ∙ (ap (λ (b : Bool). b || p (get_or xs i x)) before ∙ (ap p (sym is) ∙ fails))

-- the end of a loop in which no test held
pub any_none : {X : Type 0} (p : X → Bool) (xs : List X) (i : ℕ) → list_any p (take i xs) ≡ false → length xs ≤ i → false ≡ list_any p xs
any_none p xs i before over = sym (ap (list_any p) (sym (take_all i xs over)) ∙ before)

-- the second of two tests decides where the first one failed
pub second_decides : (a b x r : Bool) → a ≡ x → a ≡ false → r ≡ b → r ≡ (x || b)
second_decides a b x r same fails second = second ∙ ap (λ (f : Bool). f || b) (sym fails ∙ same)

-- the flags of a class by its number
flags_declared : (cs : List ClassDef) (boot k : ℕ) (c : ClassDef) → k < length cs → c ≡ get_or cs k c → flags_of (slice_get (declared cs boot).classes k) ≡ c.flags
unfolding declared
flags_declared cs boot k c within is =
    ap flags_of (slice_get-map class_declared cs k ∙ ap (option_map class_declared) (slice_get_read cs (length cs) k c refl within is))

-- a flag of the class of a name, whose place among the names was found
flag_told : (f : Flag) (cs : List ClassDef) (boot : ℕ) (names : List (List ℕ)) (k : ℕ) (c : ClassDef) (r : Bool) → names ≡ def_names cs → k < length names → c ≡ get_or cs k c → r ≡ has_flag (get_or cs k c).flags f → has_flag (flags_of (slice_get (declared cs boot).classes k)) f ≡ r
flag_told f cs boot names k c r known within is told =
    let count : length names ≡ length cs = ap length known ∙ length-map cs (λ (d : ClassDef). d.name) in
    let flags : flags_of (slice_get (declared cs boot).classes k) ≡ c.flags = flags_declared cs boot k c (omega arith) is in
    ap (λ (n : ℕ). has_flag n f) (flags ∙ ap (λ (d : ClassDef). d.flags) is) ∙ sym told

pub interface_told : (cs : List ClassDef) (boot : ℕ) (names : List (List ℕ)) (name : List ℕ) (k : ℕ) (c : ClassDef) (r : Bool) → names ≡ def_names cs → k < length names → Some k ≡ class_named (declared cs boot) name → c ≡ get_or cs k c → r ≡ has_flag (get_or cs k c).flags flag.Interface → r ≡ names_interface (declared cs boot) (Some name)
interface_told cs boot names name k c r known within named is told =
    sym (flag_told flag.Interface cs boot names k c r known within is told) ∙ ap (λ (o : Option ℕ). elim o [ None ↦ false | Some d ↦ is_interface (declared cs boot) d ]) named

pub final_told : (cs : List ClassDef) (boot : ℕ) (names : List (List ℕ)) (name : List ℕ) (k : ℕ) (c : ClassDef) (r : Bool) → names ≡ def_names cs → k < length names → Some k ≡ class_named (declared cs boot) name → c ≡ get_or cs k c → r ≡ has_flag (get_or cs k c).flags flag.Final → r ≡ final_at (declared cs boot) (class_named (declared cs boot) name)
final_told cs boot names name k c r known within named is told =
    sym (flag_told flag.Final cs boot names k c r known within is told) ∙ ap (final_at (declared cs boot)) named

-- the fault of a class that a loop comes to
at_class : (test : LinkTest) (cs : List ClassDef) (i : ℕ) (c : ClassDef) → i < length cs → c ≡ get_or cs i c → fault_at test cs i ≡ option_map (found c.name) (test i c)
at_class test cs i c within is = ap (tested test i) (slice_get_read cs (length cs) i c refl within is)

pub classes_more : (test : LinkTest) (cs : List ClassDef) (i : ℕ) (c : ClassDef) → first_below (fault_at test cs) i ≡ None → i < length cs → c ≡ get_or cs i c → option_map (found c.name) (test i c) ≡ None → first_below (fault_at test cs) (i + 1) ≡ None
classes_more test cs i c before within is none = first_below_more (fault_at test cs) i before (at_class test cs i c within is ∙ none)

fault_told : (e : LinkError) (a b : Option Found) → ((y : Found) → a ≡ Some y → b ≡ Some y) → Fails e a → Fails e b
fault_told error.Memory a b too told = tt
fault_told (error.At c k) None b too told = absurd (cc)
fault_told (error.At c k) (Some y) b too told = too y refl ∙ told

pub classes_told : (test : LinkTest) (e : LinkError) (cs : List ClassDef) (i : ℕ) (c : ClassDef) → first_below (fault_at test cs) i ≡ None → i < length cs → c ≡ get_or cs i c → Fails e (option_map (found c.name) (test i c)) → Fails e (first_fault_by test cs)
classes_told test e cs i c before within is told =
    fault_told e (option_map (found c.name) (test i c)) (first_fault_by test cs)
    (λ y some. first_below_found (fault_at test cs) (length cs) i y before (at_class test cs i c within is ∙ some) within) told
