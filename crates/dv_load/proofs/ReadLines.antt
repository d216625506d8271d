-- What the lines of a class say: a class has a name, and a value stands in a field that it fits.
use Rattle.std.proofs.Common.{◌≡◌, ◌≢◌, ℕ, zero, suc, ◌<◌, ◌==◌, ◌&&◌, Bool, true, false, List, [], ◌∷◌, drop, Option, Some, None, unwrap_or, Result, Ok, Err, IfOk, IsTrue, refl, sym, subst, arith, lit<}
use Rattle.std.specs.Prelude.{pos, bytes_eq, codes, if◌then◌else◌}
use Rattle.std.proofs.lemmas.Bool.{and_from, and_parts, cond_both, eqb-true}
use Rattle.dv_defs.specs.declared.class.Init.{Init}
use Rattle.dv_defs.specs.declared.class.Init.TheVariants as init
use Rattle.dv_defs.specs.declared.faults.LineKind.{LineKind}
use Rattle.dv_defs.specs.declared.flags.Flag.TheVariants as flag
use Rattle.dv_defs.specs.declared.names.Base.{Base}
use Rattle.dv_defs.specs.declared.names.Base.TheVariants as base
use Rattle.dv_defs.specs.declared.names.Ty.{Ty}
use Rattle.dv_defs.specs.Field.{may_stand, value_fits}
use Rattle.dv_defs.specs.Flags.{has_flag}
use Rattle.dv_names.specs.Grammar.{refusal, type_refusal}
use Rattle.dv_lex.specs.Numbers.{Number}
use Rattle.dv_coderead.specs.declared.head.Directive.{Directive}
use Rattle.dv_coderead.specs.declared.head.Directive.TheVariants as directive
use Rattle.dv_coderead.specs.declared.head.Head.{Head}
use Rattle.dv_coderead.specs.declared.head.Head.TheVariants as head
use Rattle.dv_coderead.specs.Giving.{◌>>=◌}
use Rattle.dv_coderead.specs.Heads.{head_of}
use Rattle.dv_coderead.specs.Operands.{Part, alone, and_behind, after_first, ended, word_at}
use Rattle.dv_coderead.specs.Pieces.{Piece, AWord, AMark, AString, ACharacter}
use Rattle.dv_coderead.specs.References.{base_of, brackets, class_in, is_class_type, only_class, type_in, type_of, unless_refused}
use Rattle.dv_coderead.specs.Words.{fitting, number_in}
use Rattle.dv_coderead.proofs.FormedParts.{after, after_such}
use Rattle.dv_classread.specs.declared.class_line.ClassLine.{ClassLine}
use Rattle.dv_classread.specs.declared.class_line.ClassLine.TheVariants as line
use Rattle.dv_classread.specs.declared.class_line.Standing.{Standing}
use Rattle.dv_classread.specs.declared.class_line.Standing.TheVariants as standing
use Rattle.dv_classread.specs.ClassLines.{boolean_value, by_directive, by_head, class_head_line, class_line, class_name, class_name_line, field_line, fitting_value, flags_at, init_line, inside_line, is_boolean, is_boolean_base, is_false, is_true, lacks_super, name_and_type, name_of, number_as, number_value, said, signature_line, superclass_line, value_alone, value_in, word_value}

-- ---- parts of lines

module _ {A : Type 0} (P : A → Type 0) where
  -- one of two readings is such, if both are
  either : (t : Bool) (one other : Result A LineKind) → IfOk one P → IfOk other P → IfOk (if t then one else other) P
  either true one other here there = here
  either false one other here there = there

  with_rest : (ps : List Piece) (read : Result A LineKind) → IfOk read P → IfOk (and_behind ps read) (λ x. P x.0)
  with_rest ps (Ok x) is = is
  with_rest ps (Err k) is = tt

  of_word : (f : List ℕ → Result A LineKind) → ((w : List ℕ) → IfOk (f w) P) → (ps : List Piece) → IfOk (word_at f ps) (λ x. P x.0)
  of_word f is (AWord w ∷ ps) = with_rest ps (f w) (is w)
  of_word f is ps = tt

  of_alone : (read : Part A) → IfOk read (λ x. P x.0) → IfOk (alone read) P
  of_alone (Ok x) is = after P (ended x.1) _ (λ _. is)
  of_alone (Err k) is = tt

-- ---- names of classes

abbrev IsNamed : List ℕ → Type 0
IsNamed name = name ≢ []

-- if it is a class's, it has a name
abbrev NamesClass : Base → Type 0
NamesClass b = IfOk (name_of b) IsNamed

by_letter : (t : Bool) (b other : Base) (rest : Option Base) → NamesClass b → NamesClass (unwrap_or rest other) → NamesClass (unwrap_or (if t then Some b else rest) other)
by_letter true b other rest here there = here
by_letter false b other rest here there = there

base_named : (b : ℕ) (bs : List ℕ) → NamesClass (base_of (b ∷ bs))
base_named b [] =
    let plain = base.Class (b ∷ []) in
    by_letter (b == 90) base.Z plain _ tt
    (by_letter (b == 66) base.B plain _ tt
    (by_letter (b == 67) base.C plain _ tt
    (by_letter (b == 83) base.S plain _ tt
    (by_letter (b == 73) base.I plain _ tt
    (by_letter (b == 74) base.J plain _ tt (λ e. cc))))))
base_named b (c ∷ cs) = λ e. cc

abbrev NamesType : Ty → Type 0
NamesType t = NamesClass t.base

only_named : (b : ℕ) (bs : List ℕ) → IfOk (only_class (type_of (b ∷ bs))) NamesType
only_named b bs =
    let w : List ℕ = b ∷ bs in
    let P : Result Ty LineKind → Type 0 = λ r. IfOk r NamesType in
    cond_both ((brackets w == 0) && is_class_type (type_of w).base) _ _ P
    (λ e.
    let none : brackets w ≡ 0 = eqb-true (brackets w) 0 (and_parts (brackets w == 0) (is_class_type (type_of w).base) e).0 in
    let Q : ℕ → Type 0 = λ n. NamesClass (base_of (drop n w)) in
    subst Q (sym none) (base_named b bs))
    (λ _. tt)

class_named : (w : List ℕ) → IfOk (class_in w) NamesType
unfolding class_in type_in refusal
class_named [] = tt
class_named (b ∷ bs) =
    elim (type_refusal (b ∷ bs)) as (λ o. IfOk (unless_refused o (type_of (b ∷ bs)) >>= only_class) NamesType) [
      | None ↦ only_named b bs
      | Some e ↦ tt
    ]

class_name_named : (w : List ℕ) → IfOk (class_name w) IsNamed
class_name_named w = after_such IsNamed NamesType (class_in w) _ (class_named w) (λ t named. named)

class_name_line_named : (ps : List Piece) → IfOk (class_name_line ps) IsNamed
unfolding class_name_line
class_name_line_named ps = of_alone IsNamed (word_at class_name ps) (of_word IsNamed class_name class_name_named ps)

class_head_named : (n : ℕ) (ps : List Piece) → IfOk (class_head_line n ps) (λ h. IsNamed h.name)
unfolding class_head_line
class_head_named n ps =
    after (λ h. IsNamed h.name) (flags_at 0 ps) _ (λ flags.
    after_such (λ h. IsNamed h.name) IsNamed (class_name_line flags.1) _ (class_name_line_named flags.1) (λ name named. named))

-- ---- values of fields

abbrev Fits : Ty → Init → Type 0
Fits t i = IsTrue (value_fits i t)

abbrev Stands : Ty → ℕ → Init → Type 0
Stands t flags i = IsTrue (may_stand i t flags)

fitting_fits : (t : Ty) (i : Init) → IfOk (fitting_value t i) (Fits t)
fitting_fits t i =
    let P : Result Init LineKind → Type 0 = λ r. IfOk r (Fits t) in
    cond_both (value_fits i t) _ _ P (λ e. e) (λ _. tt)

number_fits_type : (t : Ty) (o : Option Number) → IfOk (number_value t o) (Fits t)
number_fits_type t None = tt
number_fits_type t (Some n) = after (Fits t) (fitting (number_as t.base n)) _ (λ z. fitting_fits t (init.Num z))

boolean_base_fits : (dims : ℕ) (b : Base) (n : ℕ) → n < 2 → (dims == 0) ≡ true → is_boolean_base b ≡ true → Fits (record { dims = dims; base = b }) (init.Num (pos n))
boolean_base_fits dims base.Z zero lt none is = and_from _ _ none refl
boolean_base_fits dims base.Z (suc zero) lt none is = and_from _ _ none refl
boolean_base_fits dims base.Z (suc (suc n)) lt none is = absurd (omega arith)
boolean_base_fits dims base.B n lt none is = absurd (cc)
boolean_base_fits dims base.C n lt none is = absurd (cc)
boolean_base_fits dims base.S n lt none is = absurd (cc)
boolean_base_fits dims base.I n lt none is = absurd (cc)
boolean_base_fits dims base.J n lt none is = absurd (cc)
boolean_base_fits dims (base.Class name) n lt none is = absurd (cc)

boolean_fits : (t : Ty) (n : ℕ) → n < 2 → IfOk (boolean_value t n) (Fits t)
boolean_fits t n lt =
    let P : Result Init LineKind → Type 0 = λ r. IfOk r (Fits t) in
    cond_both (is_boolean t) _ _ P (λ e. let p = and_parts (t.dims == 0) (is_boolean_base t.base) e in boolean_base_fits t.dims t.base n lt p.0 p.1) (λ _. tt)

word_fits : (t : Ty) (w : List ℕ) → IfOk (word_value t w) (Fits t)
unfolding word_value
word_fits t w =
    either (Fits t) (is_true w) _ _ (boolean_fits t 1 (lit< tt))
    (either (Fits t) (is_false w) _ _ (boolean_fits t 0 (lit< tt))
    (either (Fits t) (bytes_eq w (codes "null")) _ _ (fitting_fits t init.Null) (number_fits_type t (number_in w))))

value_in_fits : (t : Ty) (p : Piece) → IfOk (value_in t p) (Fits t)
unfolding value_in
value_in_fits t (AWord w) = word_fits t w
value_in_fits t (ACharacter u) = fitting_fits t (init.Num (pos u))
value_in_fits t (AString units) = fitting_fits t (init.Str units)
value_in_fits t (AMark b) = tt

value_alone_fits : (t : Ty) (ps : List Piece) → IfOk (value_alone t ps) (Fits t)
value_alone_fits t [] = tt
value_alone_fits t (p ∷ ps) = after_such (Fits t) (Fits t) (value_in t p) _ (value_in_fits t p) (λ i is. after (Fits t) (ended ps) _ (λ _. is))

stands_by : (t : Ty) (flags : ℕ) (i : Init) → has_flag flags flag.Static ≡ true → Fits t i → Stands t flags i
stands_by t flags init.Absent static is = refl
stands_by t flags (init.Num n) static is = and_from _ _ static is
stands_by t flags (init.Str units) static is = and_from _ _ static is
stands_by t flags init.Null static is = and_from _ _ static is

all_stand : (t : Ty) (flags : ℕ) (read : Result Init LineKind) → has_flag flags flag.Static ≡ true → IfOk read (Fits t) → IfOk read (Stands t flags)
all_stand t flags (Ok i) static is = stands_by t flags i static is
all_stand t flags (Err k) static is = tt

init_stands : (t : Ty) (flags : ℕ) (ps : List Piece) → IfOk (init_line (has_flag flags flag.Static) t ps) (Stands t flags)
init_stands t flags [] = refl
init_stands t flags (AMark b ∷ ps) =
    let P : Result Init LineKind → Type 0 = λ r. IfOk r (Stands t flags) in
    cond_both ((b == 61) && has_flag flags flag.Static) _ _ P
    (λ e. all_stand t flags (value_alone t ps) (and_parts (b == 61) (has_flag flags flag.Static) e).1 (value_alone_fits t ps))
    (λ _. tt)
init_stands t flags (AWord w ∷ ps) = tt
init_stands t flags (AString units ∷ ps) = tt
init_stands t flags (ACharacter unit ∷ ps) = tt

field_stands : (ps : List Piece) → IfOk (field_line ps) (λ f. Stands f.ty f.flags f.init)
unfolding field_line
field_stands ps =
    after (λ f. Stands f.ty f.flags f.init) (flags_at 0 ps) _ (λ flags.
    after (λ f. Stands f.ty f.flags f.init) (word_at name_and_type flags.1) _ (λ field.
    after_such (λ f. Stands f.ty f.flags f.init) (Stands field.0.1 flags.0) (init_line (has_flag flags.0 flag.Static) field.0.1 field.1) _
    (init_stands field.0.1 flags.0 field.1) (λ value stands. stands)))

-- ---- lines

-- a class that the line begins has a name, and the value of a field stands in it
abbrev pub IsSound : ClassLine → Type 0
IsSound (line.Class h) = h.name ≢ []
IsSound (line.Field f) = IsTrue (may_stand f.init f.ty f.flags)
IsSound l = Unit {0}

said_sound : {A : Type 0} (P : A → Type 0) (f : A → ClassLine) (read : Result A LineKind) → ((x : A) → P x → IsSound (f x)) → IfOk read P → IfOk (said f read) IsSound
said_sound P f (Ok x) goes is = goes x is
said_sound P f (Err k) goes is = tt

any_sound : {A : Type 0} (f : A → ClassLine) (read : Result A LineKind) → ((x : A) → IsSound (f x)) → IfOk (said f read) IsSound
any_sound f (Ok x) goes = goes x
any_sound f (Err k) goes = tt

super_sound : (is_object has_super : Bool) (ps : List Piece) → IfOk (superclass_line is_object has_super ps) IsSound
super_sound true has_super ps = tt
super_sound false true ps = tt
super_sound false false ps = any_sound line.Super (class_name_line ps) (λ _. tt)

inside_sound : (is_object has_super : Bool) (d : Directive) (ps : List Piece) → IfOk (inside_line is_object has_super d ps) IsSound
inside_sound is_object has_super directive.Super ps = super_sound is_object has_super ps
inside_sound is_object has_super directive.Implements ps = any_sound line.Implements (class_name_line ps) (λ _. tt)
inside_sound is_object has_super directive.Source ps = tt
inside_sound is_object has_super directive.Field ps = said_sound (λ f. Stands f.ty f.flags f.init) line.Field (field_line ps) (λ f is. is) (field_stands ps)
inside_sound is_object has_super directive.Method ps = any_sound line.Method (signature_line ps) (λ _. tt)
inside_sound is_object has_super d ps = tt

directive_sound : (s : Standing) (n : ℕ) (d : Directive) (ps : List Piece) → IfOk (by_directive s n d ps) IsSound
directive_sound s n directive.Class ps =
    either IsSound (lacks_super s) _ _ tt (said_sound (λ h. IsNamed h.name) line.Class (class_head_line n ps) (λ h is. is) (class_head_named n ps))
directive_sound standing.Outside n d ps = tt
directive_sound (standing.Inside is_object has_super) n d ps = inside_sound is_object has_super d ps

head_sound : (s : Standing) (n : ℕ) (h : Head) (ps : List Piece) → IfOk (by_head s n h ps) IsSound
head_sound s n (head.Directive d) ps = directive_sound s n d (after_first ps)
head_sound s n h ps = tt

pub line_sound : (s : Standing) (n : ℕ) (ps : List Piece) → IfOk (class_line s n ps) IsSound
unfolding class_line
line_sound s n ps = head_sound s n (head_of ps) ps
