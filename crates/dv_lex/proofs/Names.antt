-- Names, descriptors and references are words.
use Rattle.std.proofs.Common.{◌≡◌, ℕ, zero, suc, ◌<◌, Bool, true, List, [], ◌∷◌, ◌++◌, length, replicate, Option, Some, None, refl, ap, ◌∙◌, arith, inl, inr, lit<}
use Rattle.std.specs.Prelude.{bytes_eq, codes}
use Rattle.std.specs.Bool.{IsTrue}
use Rattle.std.specs.Option.{IfSome}
use Rattle.std.specs.List.{All, list_all, flat_map, join_with_byte}
use Rattle.std.proofs.lemmas.Bool.{and_parts, and_from, or_cases, ltb-true}
use Rattle.std.proofs.lemmas.Bool.Decides.{nat_tests}
use Rattle.std.proofs.lemmas.List.{length-append}
use Rattle.std.proofs.lemmas.List.Elements.{All-head, All-tail}
use Rattle.std.proofs.lemmas.Slice.Eq.{bytes_eq-Decides}
use Rattle.std.proofs.lemmas.List.Folds.{list_all-append}
use Rattle.dv_defs.specs.declared.names.Base.{Base}
use Rattle.dv_defs.specs.declared.names.Base.TheVariants as base
use Rattle.dv_defs.specs.declared.names.Ty.{Ty}
use Rattle.dv_defs.specs.declared.names.Proto.{Proto}
use Rattle.dv_defs.specs.declared.names.FieldRef.{FieldRef}
use Rattle.dv_defs.specs.declared.names.MethodRef.{MethodRef}
use Rattle.dv_names.specs.Descriptors.{base_text, descriptor, return_text, prototype, is_name, is_name_byte, is_plain_name, is_special_name, IsClassName, IsBase, IsType, IsProto}
use Rattle.dv_names.specs.Written.{field_text, method_text}
use Rattle.dv_lex.specs.Bytes.{byte_class, is_plain}
use Rattle.dv_lex.specs.Laws.Names.{IsWord, IsFieldRef, IsMethodRef}

abbrev pub all_plain : List ℕ → Bool
all_plain w = list_all is_plain w

-- ---- bytes

name_byte_plain : (b : ℕ) → is_name_byte b ≡ true → is_plain b ≡ true
unfolding byte_class
name_byte_plain b e = grind (arith, nat_tests)

plain_append : (u w : List ℕ) → all_plain u ≡ true → all_plain w ≡ true → all_plain (u ++ w) ≡ true
plain_append u w h k = list_all-append is_plain u w ∙ and_from _ _ h k

plain_replicate : (n b : ℕ) → is_plain b ≡ true → all_plain (replicate n b) ≡ true
plain_replicate zero b e = refl
plain_replicate (suc n) b e = and_from _ _ e (plain_replicate n b e)

plain_name_bytes : (w : List ℕ) → list_all is_name_byte w ≡ true → all_plain w ≡ true
plain_name_bytes [] e = refl
plain_name_bytes (b ∷ w) e = let p = and_parts _ _ e in and_from _ _ (name_byte_plain b p.0) (plain_name_bytes w p.1)

-- the bytes that stand between names
bracket_plain : is_plain 91 ≡ true
unfolding byte_class
bracket_plain = refl

slash_plain : is_plain 47 ≡ true
unfolding byte_class
slash_plain = refl

text_plain : (all_plain (codes "L") ≡ true) × (all_plain (codes ";") ≡ true) × (all_plain (codes "(") ≡ true) × (all_plain (codes ")") ≡ true) × (all_plain (codes ":") ≡ true) × (all_plain (codes "->") ≡ true)
unfolding byte_class
text_plain = (refl, refl, refl, refl, refl, refl)

special_plain : (all_plain (codes "<init>") ≡ true) × (all_plain (codes "<clinit>") ≡ true)
unfolding byte_class
special_plain = (refl, refl)

-- ---- names

bytes_same : (w v : List ℕ) → bytes_eq w v ≡ true → w ≡ v
bytes_same w v e = (bytes_eq-Decides w v).0 e

word : (w : List ℕ) → 0 < length w → all_plain w ≡ true → IsWord w
word w some plain = (some, plain)

pub word_append : (u w : List ℕ) → IsWord u → all_plain w ≡ true → IsWord (u ++ w)
word_append u w h k = (omega (arith, h.0, length-append u w), plain_append u w h.1 k)

pub name_word : (w : List ℕ) → IsTrue (is_name w) → IsWord w
name_word w e =
    elim (or_cases (is_plain_name w) (is_special_name w) e) [
      | inl p ↦ let both = and_parts _ _ p in word w (ltb-true _ _ both.0) (plain_name_bytes w both.1)
      | inr s ↦ elim (or_cases (bytes_eq w (codes "<init>")) (bytes_eq w (codes "<clinit>")) s) [
        | inl i ↦ let same : w ≡ codes "<init>" = bytes_same w (codes "<init>") i in rw same (lit< tt, special_plain.0)
        | inr c ↦ let same : w ≡ codes "<clinit>" = bytes_same w (codes "<clinit>") c in rw same (lit< tt, special_plain.1)
      ]
    ]

pub label_word : (name : List ℕ) → IsTrue (is_name name) → IsWord (58 ∷ name)
unfolding byte_class
label_word name e = let w = name_word name e in (omega arith, and_from _ _ refl w.1)

-- ---- types

join_plain : (names : List (List ℕ)) → list_all is_name names ≡ true → all_plain (join_with_byte 47 names) ≡ true
join_plain [] e = refl
join_plain (x ∷ []) e = let p = and_parts _ _ e in (name_word x p.0).1
join_plain (x ∷ y ∷ xs) e =
    let p = and_parts _ _ e in
    plain_append x (47 ∷ join_with_byte 47 (y ∷ xs)) (name_word x p.0).1 (and_from _ _ slash_plain (join_plain (y ∷ xs) p.1))

class_plain : (w : List ℕ) → IsClassName w → all_plain w ≡ true
class_plain w c =
    let names = join_plain (c.first ∷ c.others) c.are_names in
    ap all_plain c.spelled ∙ plain_append (codes "L") (join_with_byte 47 (c.first ∷ c.others) ++ 59 ∷ []) text_plain.0 (plain_append (join_with_byte 47 (c.first ∷ c.others)) (59 ∷ []) names text_plain.1)

class_word : (w : List ℕ) → IsClassName w → IsWord w
class_word w c = (rw c.spelled (omega arith), class_plain w c)

base_word : (b : Base) → IsBase b → IsWord (base_text b)
unfolding byte_class
base_word base.Z h = (lit< tt, refl)
base_word base.B h = (lit< tt, refl)
base_word base.C h = (lit< tt, refl)
base_word base.S h = (lit< tt, refl)
base_word base.I h = (lit< tt, refl)
base_word base.J h = (lit< tt, refl)
base_word (base.Class name) h = class_word name h

pub type_word : (t : Ty) → IsType t → IsWord (descriptor t)
type_word t h =
    let b = base_word t.base h.1 in
    (omega (arith, b.0, length-append (replicate t.dims 91) (base_text t.base)), plain_append (replicate t.dims 91) (base_text t.base) (plain_replicate t.dims 91 bracket_plain) b.1)

-- ---- prototypes

parameters_plain : (ts : List Ty) → All IsType ts → all_plain (flat_map descriptor ts) ≡ true
parameters_plain [] all = refl
parameters_plain (t ∷ ts) all =
    plain_append (descriptor t) (flat_map descriptor ts) (type_word t (All-head IsType t ts all)).1 (parameters_plain ts (All-tail IsType t ts all))

return_plain : (r : Option Ty) → IfSome r IsType → all_plain (return_text r) ≡ true
unfolding byte_class
return_plain None h = refl
return_plain (Some t) h = (type_word t h).1

pub proto_word : (p : Proto) → IsProto p → IsWord (prototype p)
proto_word p h =
    let tail = plain_append (codes ")") (return_text p.ret) text_plain.3 (return_plain p.ret h.1) in
    (omega arith, plain_append (codes "(") (flat_map descriptor p.params ++ 41 ∷ return_text p.ret) text_plain.2 (plain_append (flat_map descriptor p.params) (41 ∷ return_text p.ret) (parameters_plain p.params h.0) tail))

-- ---- references

-- a type, an arrow and a name
member_word : (t : Ty) (name : List ℕ) → IsType t → IsTrue (is_name name) → IsWord (descriptor t ++ codes "->" ++ name)
member_word t name h k =
    word_append (descriptor t ++ codes "->") name (word_append (descriptor t) (codes "->") (type_word t h) text_plain.5) (name_word name k).1

pub field_word : (f : FieldRef) → IsFieldRef f → IsWord (field_text f)
field_word f h =
    let member = member_word f.class f.name h.0 h.1 in
    word_append (descriptor f.class ++ codes "->" ++ f.name ++ codes ":") (descriptor f.ty)
    (word_append (descriptor f.class ++ codes "->" ++ f.name) (codes ":") member text_plain.4) (type_word f.ty h.2).1

pub method_word : (m : MethodRef) → IsMethodRef m → IsWord (method_text m)
method_word m h = word_append (descriptor m.class ++ codes "->" ++ m.name) (prototype m.proto) (member_word m.class m.name h.0 h.1) (proto_word m.proto h.2).1
