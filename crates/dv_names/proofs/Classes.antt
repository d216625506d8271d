-- A class's descriptor, by its names and byte by byte.
use Rattle.std.proofs.Common.{◌≡◌, ℕ, ◌<◌, true, false, ltb, eqb, List, [], ◌∷◌, ◌++◌, length, Some, None, inl, inr, refl, sym, ap, ◌∙◌, arith}
use Rattle.std.specs.Prelude.{bytes_eq, codes}
use Rattle.std.specs.List.{list_all, join_with_byte}
use Rattle.std.specs.Option.{option_and_then}
use Rattle.std.proofs.lemmas.List.{append_assoc}
use Rattle.std.proofs.lemmas.Slice.Eq.{bytes_eq-Decides}
use Rattle.std.proofs.lemmas.Bool.{cond-true, cond-false, and_parts, and_from, or_cases, or_left, or_right, ltb-true, lt-ltb, eq-eqb, ne_eqb, cases_Bool, cases_eq}
use Rattle.dv_names.specs.Descriptors.{is_name_byte, is_plain_name, is_special_name, is_name, IsClassName}
use Rattle.dv_names.specs.Grammar.{Position, Alone, Part, Before, Within, Angle, Special, Mode, Array, Name, Whole, mode_behind, step_behind, step, after}
use Rattle.dv_names.proofs.Steps.{after_both}

-- ---- from names to bytes

pub name_bytes_run : (p : Position) (w : List ℕ) → list_all is_name_byte w ≡ true → after (Name p Within) w ≡ Some (Name p Within)
name_bytes_run p [] are = refl
name_bytes_run p (b ∷ w) are =
    let parts = and_parts (is_name_byte b) (list_all is_name_byte w) are in
    ap (option_and_then (λ n. after n w)) (cond-true (is_name_byte b) _ _ parts.0) ∙ name_bytes_run p w parts.1

pub plain_run : (p : Position) (w : List ℕ) → 0 < length w → list_all is_name_byte w ≡ true → after (Name p Before) w ≡ Some (Name p Within)
plain_run p [] some are = absurd (omega arith)
plain_run p (b ∷ w) some are =
    let parts = and_parts (is_name_byte b) (list_all is_name_byte w) are in
    ap (option_and_then (λ n. after n w)) (cond-true (is_name_byte b) _ _ parts.0) ∙ name_bytes_run p w parts.1

pub special_run : (p : Position) (w : List ℕ) → is_special_name w ≡ true → after (Name p Before) w ≡ Some (Name p (Special []))
special_run p w is =
    elim (or_cases (bytes_eq w (codes "<init>")) (bytes_eq w (codes "<clinit>")) is) [
      | inl e ↦ ap (after (Name p Before)) ((bytes_eq-Decides w (codes "<init>")).0 e)
      | inr e ↦ ap (after (Name p Before)) ((bytes_eq-Decides w (codes "<clinit>")).0 e)
    ]

-- a whole name, which something follows that goes on no name
pub name_run : (p : Position) (name more : List ℕ) (b : ℕ) → is_name name ≡ true → is_name_byte b ≡ false → after (Name p Before) (name ++ b ∷ more) ≡ after (Name p (Special [])) (b ∷ more)
name_run p name more b is no_more =
    elim (or_cases (is_plain_name name) (is_special_name name) is) [
      | inl plain ↦
          let parts = and_parts (ltb 0 (length name)) (list_all is_name_byte name) plain in
          after_both name (b ∷ more) (Name p Before) (Name p Within) (plain_run p name (ltb-true 0 (length name) parts.0) parts.1)
          ∙ ap (option_and_then (λ k. after k more)) (cond-false (is_name_byte b) _ _ no_more)
      | inr special ↦ after_both name (b ∷ more) (Name p Before) (Name p (Special [])) (special_run p name special)
    ]

names_run : (p : Position) (first : List ℕ) (others : List (List ℕ)) → is_name first ≡ true → list_all is_name others ≡ true
    → after (Name p Before) (join_with_byte 47 (first ∷ others) ++ 59 ∷ []) ≡ Some (mode_behind p)
names_run p first [] is names = name_run p first [] 59 is refl
names_run p first (next ∷ others) is names =
    let both = and_parts (is_name next) (list_all is_name others) names in
    let rest = join_with_byte 47 (next ∷ others) in
    ap (after (Name p Before)) (append_assoc first (47 ∷ rest) (59 ∷ [])) ∙ name_run p first (rest ++ 59 ∷ []) 47 is refl ∙ names_run p next others both.0 both.1

pub class_run : (p : Position) (n : ℕ) (text : List ℕ) → IsClassName text → after (Array p n) text ≡ Some (mode_behind p)
class_run p n text is =
    let both = and_parts (is_name is.first) (list_all is_name is.others) is.are_names in
    ap (after (Array p n)) is.spelled ∙ names_run p is.first is.others both.0 both.1

-- ---- what a byte is to a class's descriptor, wherever it stands

-- what may be left of a name
abbrev pub IsRest : Part → List ℕ → Type 0
IsRest Before w = is_name w ≡ true
IsRest Within w = list_all is_name_byte w ≡ true
IsRest Angle w = is_special_name (60 ∷ w) ≡ true
IsRest (Special rest) w = w ≡ rest

pub data NameByte (w : Part) (b : ℕ) : Type 0 where
  Goes : (v : Part) → ((p : Position) → step (Name p w) b ≡ Some (Name p v)) → ((rest : List ℕ) → IsRest v rest → IsRest w (b ∷ rest)) → NameByte w b
  Slash : b ≡ 47 → IsRest w [] → ((p : Position) → step (Name p w) b ≡ Some (Name p Before)) → NameByte w b
  Last : b ≡ 59 → IsRest w [] → ((p : Position) → step (Name p w) b ≡ Some (mode_behind p)) → NameByte w b
  Nowhere : ((p : Position) → step (Name p w) b ≡ None) → NameByte w b

byte_behind : (w : Part) (b : ℕ) → IsRest w [] → ((p : Position) → step (Name p w) b ≡ step_behind p b) → NameByte w b
byte_behind w b whole same =
    elim (cases_eq b 47) [
      | inl is ↦ Slash is whole (λ p. same p ∙ ap (step_behind p) is)
      | inr ne ↦ elim (cases_eq b 59) [
        | inl is ↦ Last is whole (λ p. same p ∙ ap (step_behind p) is)
        | inr other ↦ Nowhere (λ p. same p ∙ cond-false (eqb b 47) _ _ (ne_eqb b 47 ne) ∙ cond-false (eqb b 59) _ _ (ne_eqb b 59 other))
      ]
    ]

begins_plain : (b : ℕ) (rest : List ℕ) → is_name_byte b ≡ true → list_all is_name_byte rest ≡ true → is_name (b ∷ rest) ≡ true
begins_plain b rest is are =
    let some = lt-ltb 0 (length (b ∷ rest)) (omega arith) in
    or_left (is_plain_name (b ∷ rest)) (is_special_name (b ∷ rest)) (and_from (ltb 0 (length (b ∷ rest))) (list_all is_name_byte (b ∷ rest)) some (and_from (is_name_byte b) (list_all is_name_byte rest) is are))

begins_special : (b : ℕ) (rest : List ℕ) → b ≡ 60 → is_special_name (60 ∷ rest) ≡ true → is_name (b ∷ rest) ≡ true
begins_special b rest e is = or_right (is_plain_name (b ∷ rest)) (is_special_name (b ∷ rest)) (ap (λ z. is_special_name (z ∷ rest)) e ∙ is)

pub name_byte : (w : Part) (b : ℕ) → NameByte w b
name_byte Before b =
    elim (cases_Bool (is_name_byte b)) [
      | inl is ↦ Goes Within (λ p. cond-true (is_name_byte b) _ _ is) (λ rest are. begins_plain b rest is are)
      | inr plain ↦ elim (cases_eq b 60) [
        | inl e ↦ Goes Angle (λ p. ap (step (Name p Before)) e) (λ rest is. begins_special b rest e is)
        | inr ne ↦ Nowhere (λ p. cond-false (is_name_byte b) _ _ plain ∙ cond-false (eqb b 60) _ _ (ne_eqb b 60 ne))
      ]
    ]
name_byte Within b =
    elim (cases_Bool (is_name_byte b)) [
      | inl is ↦ Goes Within (λ p. cond-true (is_name_byte b) _ _ is) (λ rest are. and_from (is_name_byte b) (list_all is_name_byte rest) is are)
      | inr plain ↦ byte_behind Within b refl (λ p. cond-false (is_name_byte b) _ _ plain)
    ]
name_byte Angle b =
    elim (cases_eq b 105) [
      | inl e ↦ Goes (Special (codes "nit>")) (λ p. ap (step (Name p Angle)) e) (λ rest is i. is_special_name (60 ∷ e i ∷ is i))
      | inr ni ↦ elim (cases_eq b 99) [
        | inl e ↦ Goes (Special (codes "linit>")) (λ p. ap (step (Name p Angle)) e) (λ rest is i. is_special_name (60 ∷ e i ∷ is i))
        | inr nc ↦ Nowhere (λ p. cond-false (eqb b 105) _ _ (ne_eqb b 105 ni) ∙ cond-false (eqb b 99) _ _ (ne_eqb b 99 nc))
      ]
    ]
name_byte (Special []) b = byte_behind (Special []) b refl (λ p. refl)
name_byte (Special (c ∷ more)) b =
    elim (cases_eq b c) [
      | inl e ↦ Goes (Special more) (λ p. cond-true (eqb b c) _ _ (eq-eqb b c e)) (λ rest is i. e i ∷ is i)
      | inr ne ↦ Nowhere (λ p. cond-false (eqb b c) _ _ (ne_eqb b c ne))
    ]

-- ---- from bytes to names

-- what is left of a class's descriptor
record Rest (w : Part) (text : List ℕ) : Type 0 where
  first : List ℕ
  others : List (List ℕ)
  is : IsRest w first
  names : list_all is_name others ≡ true
  spelled : text ≡ join_with_byte 47 (first ∷ others) ++ 59 ∷ []

more_spelled : (b : ℕ) (first : List ℕ) (others : List (List ℕ)) → b ∷ (join_with_byte 47 (first ∷ others) ++ 59 ∷ []) ≡ join_with_byte 47 ((b ∷ first) ∷ others) ++ 59 ∷ []
more_spelled b first [] = refl
more_spelled b first (next ∷ others) = refl

more : (w v : Part) (b : ℕ) (text : List ℕ) → ((rest : List ℕ) → IsRest v rest → IsRest w (b ∷ rest)) → Rest v text → Rest w (b ∷ text)
more w v b text begins r = record {
  first = b ∷ r.first;
  others = r.others;
  is = begins r.first r.is;
  names = r.names;
  spelled = ap (λ t. b ∷ t) r.spelled ∙ more_spelled b r.first r.others;
}

slash : (w : Part) (b : ℕ) (text : List ℕ) → b ≡ 47 → IsRest w [] → Rest Before text → Rest w (b ∷ text)
slash w b text e whole r = record {
  first = [];
  others = r.first ∷ r.others;
  is = whole;
  names = and_from (is_name r.first) (list_all is_name r.others) r.is r.names;
  spelled = ap (λ c. c ∷ text) e ∙ ap (λ t. 47 ∷ t) r.spelled;
}

ends : (w : Part) (b : ℕ) (text : List ℕ) → b ≡ 59 → IsRest w [] → text ≡ [] → Rest w (b ∷ text)
ends w b text e whole none = record {
  first = [];
  others = [];
  is = whole;
  names = refl;
  spelled = ap (λ c. c ∷ text) e ∙ ap (λ t. 59 ∷ t) none;
}

pub none_left : (text : List ℕ) → after Whole text ≡ Some Whole → text ≡ []
none_left [] e = refl
none_left (b ∷ text) e = absurd (cc)

pub going : (m n : Mode) (b : ℕ) (text : List ℕ) → step m b ≡ Some n → after m (b ∷ text) ≡ Some Whole → after n text ≡ Some Whole
going m n b text e is = sym (ap (option_and_then (λ k. after k text)) e) ∙ is

pub stuck : (m : Mode) (b : ℕ) (text : List ℕ) → step m b ≡ None → after m (b ∷ text) ≡ Some Whole → ⊥
stuck m b text e is = let h : None ≡ Some Whole = sym (ap (option_and_then (λ k. after k text)) e) ∙ is in absurd (cc)

rest_by : (w : Part) (b : ℕ) (text : List ℕ) → NameByte w b → ((v : Part) → after (Name Alone v) text ≡ Some Whole → Rest v text)
    → after (Name Alone w) (b ∷ text) ≡ Some Whole → Rest w (b ∷ text)
rest_by w b text (Goes v goes begins) ih e = more w v b text begins (ih v (going (Name Alone w) (Name Alone v) b text (goes Alone) e))
rest_by w b text (Slash is whole goes) ih e = slash w b text is whole (ih Before (going (Name Alone w) (Name Alone Before) b text (goes Alone) e))
rest_by w b text (Last is whole goes) ih e = ends w b text is whole (none_left text (going (Name Alone w) Whole b text (goes Alone) e))
rest_by w b text (Nowhere goes) ih e = absurd (stuck (Name Alone w) b text (goes Alone) e)

rest_from : (text : List ℕ) (w : Part) → after (Name Alone w) text ≡ Some Whole → Rest w text
rest_from [] w e = absurd (cc)
rest_from (b ∷ text) w e = rest_by w b text (name_byte w b) (rest_from text) e

pub class_from : (b : ℕ) (text : List ℕ) → b ≡ 76 → after (Name Alone Before) text ≡ Some Whole → IsClassName (b ∷ text)
class_from b text letter e =
    let r = rest_from text Before e in
    record {
      first = r.first;
      others = r.others;
      are_names = and_from (is_name r.first) (list_all is_name r.others) r.is r.names;
      spelled = ap (λ c. c ∷ text) letter ∙ ap (λ t. 76 ∷ t) r.spelled;
    }
