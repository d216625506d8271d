-- Final methods of superclasses.
use Rattle.std.proofs.Common.{◌≡◌, ◌+◌, ◌-◌, ◌<◌, ◌≤◌, ℕ, zero, suc, Bool, true, false, cond, not, ◌&&◌, ◌||◌, bytes_eq, List, [], ◌∷◌, length, take, drop, get_or, Option, Some, None, refl, sym, ap, ◌∙◌, arith}
use Rattle.std.specs.Prelude.{nat_eq, slice_get, option_map}
use Rattle.std.specs.List.{list_any}
use Rattle.std.proofs.lemmas.List.{take_all, get_or-map, length-map}
use Rattle.std.proofs.lemmas.List.Folds.{list_any_more}
use Rattle.std.proofs.lemmas.Option.{same_Some, slice_get_read}
use Rattle.dv_defs.specs.declared.class.ClassDef.{ClassDef}
use Rattle.dv_defs.specs.declared.class.MethodDef.{MethodDef}
use Rattle.dv_defs.specs.declared.flags.Flag.TheVariants as flag
use Rattle.dv_defs.specs.declared.image.ClassInfo.{ClassInfo}
use Rattle.dv_defs.specs.declared.names.ClassId.{ClassId}
use Rattle.dv_defs.specs.declared.names.MethodId.{MethodId}
use Rattle.dv_defs.specs.declared.faults.LinkKind.TheVariants as kind
use Rattle.dv_defs.specs.Flags.{has_flag}
use Rattle.dv_defs.specs.Images.{Image}
use Rattle.dv_defs.specs.Types.{same_proto}
use Rattle.dv_defs.specs.Names.{init_name}
use Rattle.dv_defs.specs.Pools.{class_number, methods_of, parent_at, parent_of, walk, supers}
use Rattle.dv_defs.specs.First.{when}
use Rattle.dv_defs.specs.declared.faults.LinkError.{LinkError}
use Rattle.dv_defs.specs.LinkFaults.{Fails, Found, forbids, found, is_final, is_open, overrides_final}
use Rattle.dv_defs.specs.Linked.{defs}
use Rattle.dv_hier.specs.Slots.{walked, superclasses}
use Rattle.dv_hier.proofs.Cells.{walked_none}
use Rattle.dv_vtable.specs.Chains.{Key, insert_entry, is_in_tables, key_in}
use Rattle.dv_vtable.specs.Finals.{has_entry, has_final, class_has_final, final_above, is_constructor}
use Rattle.dv_vtable.specs.Numbered.{all_methods, has_key, key_number, number_in, numbers_in, numbers_of}
use Rattle.dv_vtable.proofs.EnteredLaws.{own_among}
use Rattle.dv_vtable.proofs.NumberLaws.{IsAmong, any_inserted, numbers_tell}
use Rattle.dv_vtable.proofs.SameKeys.{key_is, key_laws}

-- ---- which methods have numbers

in_tables_by : (s p i : Bool) → (not s && not p && not (not s && i)) ≡ ((not s && not p) && not i)
in_tables_by true p i = refl
in_tables_by false true i = refl
in_tables_by false false i = refl

in_tables_is : (m : MethodDef) → is_in_tables m ≡ (is_open m && not (bytes_eq m.name init_name))
in_tables_is m = in_tables_by (has_flag m.flags flag.Static) (has_flag m.flags flag.Private) (bytes_eq m.name init_name)

both : (a b : Bool) → (a && not b) ≡ true → (a ≡ true) × (b ≡ false)
both true false e = (refl, refl)
both true true e = absurd (cc)
both false b e = absurd (cc)

-- a method with a number is one that a call may land on
pub number_told : (all : List MethodDef) (m : MethodDef) (n : ℕ) → number_in all m ≡ Some n
    → (n ≡ key_number all (key_in m)) × (is_open m ≡ true) × (is_constructor (key_in m) ≡ false)
number_told all m n number = go (is_in_tables m) refl number
  where
    go : (b : Bool) → is_in_tables m ≡ b → cond b (Some (key_number all (key_in m))) None ≡ Some n
        → (n ≡ key_number all (key_in m)) × (is_open m ≡ true) × (is_constructor (key_in m) ≡ false)
    go true is told =
        let parts = both (is_open m) (bytes_eq m.name init_name) (sym (in_tables_is m) ∙ is) in
        (sym (same_Some (key_number all (key_in m)) n told), parts.0, parts.1)
    go false is told = absurd (cc)

-- one without isn't
pub numberless : (all : List MethodDef) (m : MethodDef) → number_in all m ≡ None → (is_open m && not (bytes_eq m.name init_name)) ≡ false
numberless all m number = go (is_in_tables m) refl number
  where
    go : (b : Bool) → is_in_tables m ≡ b → cond b (Some (key_number all (key_in m))) None ≡ None → (is_open m && not (bytes_eq m.name init_name)) ≡ false
    go true is told = absurd (cc)
    go false is told = sym (in_tables_is m) ∙ is

-- ---- methods by place

pub own_number : (all ms : List MethodDef) (own : List (Option ℕ)) (i : ℕ) (m : MethodDef) (d : Option ℕ) → own ≡ numbers_in all ms → i < length ms → m ≡ get_or ms i m
    → get_or own i d ≡ number_in all m
own_number all ms own i m d are within is =
    ap (λ (ks : List (Option ℕ)). get_or ks i d) are ∙ (get_or-map (number_in all) ms i m d within ∙ ap (number_in all) (sym is))

pub as_many_own : (all ms : List MethodDef) (own : List (Option ℕ)) → own ≡ numbers_in all ms → length own ≡ length ms
as_many_own all ms own are = ap (λ (ks : List (Option ℕ)). length ks) are ∙ length-map ms (number_in all)

pub method_there : (ms : List MethodDef) (i : ℕ) → i < length ms → (m : MethodDef) × (m ≡ get_or ms i m)
method_there [] i within = absurd (omega arith)
method_there (m ∷ ms) zero within = (m, refl)
method_there (m ∷ ms) (suc i) within = method_there ms i (omega arith)

pub among_at : (cs : List ClassInfo) (c : ℕ) (ms : List MethodDef) (i : ℕ) (m : MethodDef) → methods_of (slice_get cs c) ≡ ms → i < length ms → m ≡ get_or ms i m
    → IsAmong (all_methods cs) (key_in m)
among_at cs c ms i m same within is = go (slice_get cs c) refl same
  where
    go : (o : Option ClassInfo) → slice_get cs c ≡ o → methods_of o ≡ ms → IsAmong (all_methods cs) (key_in m)
    go None at none = absurd (let few : length ms ≡ 0 = ap (λ (ns : List MethodDef). length ns) (sym none) in omega (arith, within, few))
    go (Some info) at own =
        own_among cs c info at i m (ap (λ (ns : List MethodDef). slice_get ns i) own ∙ slice_get_read ms (length ms) i m refl within is)

pub number_within : (cs : List ClassInfo) (m : MethodDef) (n count : ℕ) → IsAmong (all_methods cs) (key_in m) → number_in (all_methods cs) m ≡ Some n
    → count ≡ length (all_methods cs) → n < count
number_within cs m n count among number many = omega (arith, among, many, (number_told (all_methods cs) m n number).0)

-- the methods of a class that stands there
pub own_class : (cs : List ClassInfo) (place : ℕ) (class : ClassDef) → slice_get (defs cs) place ≡ Some class
    → (methods_of (slice_get cs place) ≡ class.methods) × (place < length cs)
own_class [] place class at = absurd (cc)
own_class (c ∷ cs) zero class at = (ap (λ (d : ClassDef). d.methods) (same_Some c.def class at), omega arith)
own_class (c ∷ cs) (suc place) class at = let rest = own_class cs place class at in (rest.0, omega (arith, rest.1))

-- whether an entry has a method's number tells whether the entries forbid the method's key
pub has_told : (all : List MethodDef) (es : List (ℕ × MethodId)) (m : MethodDef) (n : ℕ) (has : Bool) (forbidden : Key → Bool) → has ≡ list_any (nat_eq n) (numbers_of es)
    → number_in all m ≡ Some n → ((k : Key) → is_constructor k ≡ false → has_entry all es k ≡ forbidden k) → has ≡ forbidden (key_in m)
has_told all es m n has forbidden known number told =
    let parts = number_told all m n number in
    known ∙ (ap (λ i. list_any (nat_eq i) (numbers_of es)) parts.0 ∙ told (key_in m) parts.2)

-- ---- of one class

abbrev is_final_like : Key → MethodDef → Bool
is_final_like k n = is_final n && has_key k n

final_more : (ms : List MethodDef) (i : ℕ) (m : MethodDef) (k : Key) → i < length ms → m ≡ get_or ms i m → has_final k (take (i + 1) ms) ≡ (has_final k (take i ms) || is_final_like k m)
final_more ms i m k within is = list_any_more (is_final_like k) ms i m within ∙ ap (λ (n : MethodDef). has_final k (take i ms) || is_final_like k n) (sym is)

with_one : (start rest final like : Bool) → final ≡ true → ((start || rest) || like) ≡ (start || (rest || (final && like)))
with_one true rest final like e = refl
with_one false true final like e = refl
with_one false false true like e = refl
with_one false false false like e = absurd (cc)

with_none : (start rest more : Bool) → more ≡ false → (start || rest) ≡ (start || (rest || more))
with_none true rest more e = refl
with_none false true more e = refl
with_none false false more e = sym e

-- an entry with a method's number is one of the method's key
entry_more : (all : List MethodDef) (es : List (ℕ × MethodId)) (m : MethodDef) (k : Key) (n : ℕ) (v : MethodId) → IsAmong all (key_in m) → n ≡ key_number all (key_in m)
    → has_entry all (insert_entry nat_eq es n v) k ≡ (has_entry all es k || has_key k m)
entry_more all es m k n v among is =
    any_inserted es n (key_number all k) v
    ∙ ap (λ b. has_entry all es k || b) (ap (λ i. nat_eq i (key_number all k)) is ∙ (numbers_tell all (key_in m) k among ∙ key_laws.symm (key_in m) k))

-- a final method's key is entered
pub finals_more : (all ms : List MethodDef) (i : ℕ) (m : MethodDef) (k : Key) (n : ℕ) (v : MethodId) (es new : List (ℕ × MethodId)) (start : Bool)
    → i < length ms → m ≡ get_or ms i m → IsAmong all (key_in m) → number_in all m ≡ Some n → has_flag m.flags flag.Final ≡ true
    → new ≡ insert_entry nat_eq es n v → has_entry all es k ≡ (start || has_final k (take i ms))
    → has_entry all new k ≡ (start || has_final k (take (i + 1) ms))
finals_more all ms i m k n v es new start within is among number flagged put so_far =
    let told = number_told all m n number in
    let final : is_final m ≡ true = (λ j. told.1 j && flagged j) in
    ap (λ fs. has_entry all fs k) put
    ∙ (entry_more all es m k n v among told.0
    ∙ (ap (λ b. b || has_key k m) so_far
    ∙ (with_one start (has_final k (take i ms)) (is_final m) (has_key k m) final ∙ ap (λ b. start || b) (sym (final_more ms i m k within is)))))

none_by : (o f i h : Bool) → (o && not i) ≡ false → (h ≡ true → i ≡ false) → ((o && f) && h) ≡ false
none_by false f i h e same = refl
none_by true f i false e same = go f
  where
    go : (f : Bool) → (f && false) ≡ false
    go true = refl
    go false = refl
none_by true f true true e same = let wrong = same refl in absurd (cc)
none_by true f false true e same = absurd (cc)

-- another method's isn't
pub finals_same : (ms : List MethodDef) (i : ℕ) (m : MethodDef) (k : Key) (start before : Bool) → i < length ms → m ≡ get_or ms i m
    → is_final_like k m ≡ false → before ≡ (start || has_final k (take i ms)) → before ≡ (start || has_final k (take (i + 1) ms))
finals_same ms i m k start before within is none so_far =
    so_far ∙ (with_none start (has_final k (take i ms)) (is_final_like k m) none ∙ ap (λ b. start || b) (sym (final_more ms i m k within is)))

pub not_by_number : (all : List MethodDef) (m : MethodDef) (k : Key) → is_constructor k ≡ false → number_in all m ≡ None → (is_final m && has_key k m) ≡ false
not_by_number all m k plain number =
    none_by (is_open m) (has_flag m.flags flag.Final) (bytes_eq m.name init_name) (has_key k m) (numberless all m number)
    (λ same. ap (λ (q : Key). bytes_eq q.name init_name) (sym (key_is k (key_in m) same)) ∙ plain)

pub not_by_flag : (m : MethodDef) (k : Key) → has_flag m.flags flag.Final ≡ false → (is_final m && has_key k m) ≡ false
not_by_flag m k flagged = go (is_open m) (has_flag m.flags flag.Final) (has_key k m) flagged
  where
    go : (o f h : Bool) → f ≡ false → ((o && f) && h) ≡ false
    go true false h e = refl
    go false f h e = refl
    go true true h e = absurd (cc)

pub finals_all : (ms : List MethodDef) (i : ℕ) (q : Key) (start had : Bool) → length ms ≤ i → had ≡ (start || has_final q (take i ms)) → had ≡ (start || has_final q ms)
finals_all ms i q start had over told = told ∙ ap (λ (ns : List MethodDef). start || has_final q ns) (take_all i ms over)

-- ---- of all superclasses

or_false : (b : Bool) → (b || false) ≡ b
or_false true = refl
or_false false = refl

or_more : (a b c : Bool) → (a || (b || c)) ≡ ((a || b) || c)
or_more true b c = refl
or_more false b c = refl

-- a set without keys, at the superclass of the class
pub finals_start : (cs : List ClassInfo) (c : ℕ) (info : ClassInfo) (k : Key) (had : Bool) → slice_get cs c ≡ Some info → had ≡ false → (had || list_any (class_has_final cs k) (walked cs (length cs - 1) (class_number info.parent))) ≡ final_above cs c k
finals_start cs c info k had there none = rw none (ap (λ (o : Option ClassInfo). list_any (class_has_final cs k) (walked cs (length cs - 1) (parent_of o))) (sym there))

pub finals_end : (cs : List ClassInfo) (n : ℕ) (o : Option ClassId) (k : Key) (had whole : Bool) → o ≡ None → (had || list_any (class_has_final cs k) (walked cs n (class_number o))) ≡ whole → had ≡ whole
finals_end cs n o k had whole none so_far =
    sym (or_false had) ∙ (rw (none, walked_none cs n) at so_far)

pub finals_stop : (cs : List ClassInfo) (n : ℕ) (o : Option ClassId) (k : Key) (had whole : Bool) → n ≡ 0 → (had || list_any (class_has_final cs k) (walked cs n (class_number o))) ≡ whole → had ≡ whole
finals_stop cs n o k had whole none so_far = sym (or_false had) ∙ (rw none at so_far)

pub finals_next : (cs : List ClassInfo) (n m : ℕ) (o : Option ClassId) (id : ClassId) (info : ClassInfo) (items : List MethodDef) (k : Key) (had now whole : Bool)
    → n ≡ suc m → o ≡ Some id → slice_get cs id.0 ≡ Some info → items ≡ info.def.methods → now ≡ (had || has_final k items)
    → (had || list_any (class_has_final cs k) (walked cs n (class_number o))) ≡ whole
    → (now || list_any (class_has_final cs k) (walked cs m (class_number info.parent))) ≡ whole
finals_next cs n m o id info items k had now whole fuel is there same added so_far =
    let before : (had || (has_final k (methods_of (slice_get cs id.0)) || list_any (class_has_final cs k) (walked cs m (parent_of (slice_get cs id.0))))) ≡ whole = rw (fuel, is) at so_far in
    let after : (had || (has_final k info.def.methods || list_any (class_has_final cs k) (walked cs m (class_number info.parent)))) ≡ whole = rw there at before in
    rw (added, same) (sym (or_more had (has_final k info.def.methods) (list_any (class_has_final cs k) (walked cs m (class_number info.parent)))) ∙ after)

walk_is : (image : Image) (n : ℕ) (o : Option ℕ) → walk image n o ≡ walked image.classes n o
walk_is image zero o = refl
walk_is image (suc n) None = refl
walk_is image (suc n) (Some c) = ap (λ (cs : List ℕ). c ∷ cs) (walk_is image n (parent_at image c))

supers_are : (image : Image) (c : ℕ) → c < length image.classes → supers image c ≡ c ∷ superclasses image.classes c
supers_are image c within =
    let fuel : length image.classes ≡ suc (length image.classes - 1) = omega arith in
    walk_is image (length image.classes) (Some c) ∙ ap (λ n. walked image.classes n (Some c)) fuel

-- a superclass has a final method of the key of a method just where it forbids the method
final_is : (image : Image) (cs : List ClassInfo) (place : ℕ) (m : MethodDef) → image.classes ≡ cs → place < length cs → final_above cs place (key_in m) ≡ list_any (forbids image m) (drop 1 (supers image place))
final_is image cs place m is within =
    let inside : place < length image.classes = rw is within in
    (λ j. list_any (λ d. list_any (λ n. is_final n && (bytes_eq n.name m.name && same_proto n.proto m.proto)) (methods_of (slice_get (sym is j) d))) (superclasses (sym is j) place)) ∙
    ap (λ (ds : List ℕ). list_any (forbids image m) (drop 1 ds)) (sym (supers_are image place inside))

-- ---- of a class's methods

all_three : (a b c y : Bool) → a ≡ true → b ≡ false → y ≡ c → y ≡ true → (a && not b && c) ≡ true
all_three a b c y first second also too = grind arith

lacks_first : (a b c : Bool) → (a && b) ≡ false → (a && b && c) ≡ false
lacks_first a b c fails = grind arith

lacks_last : (a b c y : Bool) → y ≡ c → y ≡ false → (a && b && c) ≡ false
lacks_last a b c y same fails = grind arith

-- an error tells that the method stands in place of a final one
pub override_told : (image : Image) (all : List MethodDef) (cs : List ClassInfo) (place : ℕ) (class : List ℕ) (m : MethodDef) (n : ℕ) (has : Bool) (name : List ℕ) (e : LinkError)
    → image.classes ≡ cs → place < length cs → number_in all m ≡ Some n → has ≡ final_above cs place (key_in m) → has ≡ true → name ≡ m.name
    → ((fault : Option Found) → fault ≡ Some (found class (kind.FinalOverride name)) → Fails e fault) → Fails e (option_map (found class) (overrides_final image place m))
override_told image all cs place class m n has name e is within number also too same tells =
    let told = number_told all m n number in
    let whole = all_three (is_open m) (bytes_eq m.name init_name) (list_any (forbids image m) (drop 1 (supers image place))) has told.1 told.2
    (also ∙ final_is image cs place m is within) too in
    tells _ (ap (λ (b : Bool). option_map (found class) (when b (kind.FinalOverride m.name))) whole ∙ ap (λ (n : List ℕ). Some (found class (kind.FinalOverride n))) (sym same))

-- a method that stands in place of none
pub override_lacks : (image : Image) (all : List MethodDef) (place : ℕ) (class : List ℕ) (m : MethodDef) → number_in all m ≡ None → option_map (found class) (overrides_final image place m) ≡ None
override_lacks image all place class m number =
    ap (λ (b : Bool). option_map (found class) (when b (kind.FinalOverride m.name)))
    (lacks_first (is_open m) (not (bytes_eq m.name init_name)) (list_any (forbids image m) (drop 1 (supers image place))) (numberless all m number))

-- a method that stands in place of no final one
pub override_free : (image : Image) (cs : List ClassInfo) (place : ℕ) (class : List ℕ) (m : MethodDef) (has : Bool) → image.classes ≡ cs → place < length cs
    → has ≡ final_above cs place (key_in m) → has ≡ false → option_map (found class) (overrides_final image place m) ≡ None
override_free image cs place class m has is within also fails =
    ap (λ (b : Bool). option_map (found class) (when b (kind.FinalOverride m.name)))
    (lacks_last (is_open m) (not (bytes_eq m.name init_name)) (list_any (forbids image m) (drop 1 (supers image place))) has (also ∙ final_is image cs place m is within) fails)
