-- A reference to a member, from its parts.
use Rattle.std.proofs.Common.{◌≡◌, ℕ, List, [], ◌-◌, ◌∷◌, ◌++◌, length, take, drop, Ok, Err, Result, refl, ap, ◌∙◌}
use Rattle.dv_defs.specs.declared.faults.LineKind.{LineKind}
use Rattle.dv_defs.specs.declared.names.Ty.{Ty}
use Rattle.dv_defs.specs.declared.names.Proto.{Proto}
use Rattle.dv_defs.specs.declared.names.FieldRef.{FieldRef}
use Rattle.dv_defs.specs.declared.names.MethodRef.{MethodRef}
use Rattle.dv_coderead.specs.declared.refusal.Refusal.{Refusal}
use Rattle.dv_coderead.specs.declared.refusal.Refusal.TheVariants.{Fault}
use Rattle.dv_coderead.specs.Giving.{Fails, ◌>>=◌}
use Rattle.dv_coderead.specs.References.{type_in, proto_in, reference_type_in, arrow_parts, found_parts, cut_at, member_name, field_in, method_in}
use Rattle.dv_coderead.proofs.Cuts.{rest_range}
use Rattle.dv_coderead.proofs.Readings.{fails_first, fails_next, reads_next}

-- a class or array, `->`, a name up to a byte, and what stands behind it
module _ {X Y : Type 0} (mark : ℕ) (last : List ℕ → Result X LineKind) (made : Ty → List ℕ → X → Y) where
  abbrev named : Ty → List ℕ → List ℕ → Result Y LineKind
  named class text name = last text >>= (λ x. Ok (made class name x))

  abbrev in_class : Ty → List ℕ × List ℕ → Result Y LineKind
  in_class class member = member_name member.0 >>= named class member.1

  abbrev behind_class : List ℕ → Ty → Result Y LineKind
  behind_class text class = found_parts (cut_at mark text) >>= in_class class

  abbrev by_parts : List ℕ × List ℕ → Result Y LineKind
  by_parts parts = reference_type_in parts.0 >>= behind_class parts.1

  abbrev pub member_in : List ℕ → Result Y LineKind
  member_in w = arrow_parts w >>= by_parts

  module _ (w : List ℕ) where
    pub no_arrow : (k : LineKind) → arrow_parts w ≡ Err k → member_in w ≡ Err k
    no_arrow k is = fails_first (arrow_parts w) by_parts (Fault k) is

    module _ (parts : List ℕ × List ℕ) (cut : arrow_parts w ≡ Ok parts) where
      pub no_class : (e : Refusal) → Fails e (reference_type_in parts.0) → Fails e (member_in w)
      no_class e is = fails_next (arrow_parts w) by_parts parts e cut (fails_first (reference_type_in parts.0) (behind_class parts.1) e is)

      module _ (class : Ty) (is_class : reference_type_in parts.0 ≡ Ok class) where
        in_type : (e : Refusal) → Fails e (behind_class parts.1 class) → Fails e (member_in w)
        in_type e is = fails_next (arrow_parts w) by_parts parts e cut (fails_next (reference_type_in parts.0) (behind_class parts.1) class e is_class is)

        pub no_mark : (k : LineKind) → found_parts (cut_at mark parts.1) ≡ Err k → member_in w ≡ Err k
        no_mark k is = in_type (Fault k) (fails_first (found_parts (cut_at mark parts.1)) (in_class class) (Fault k) is)

        module _ (member : List ℕ × List ℕ) (found : found_parts (cut_at mark parts.1) ≡ Ok member) where
          pub no_name : (e : Refusal) → Fails e (member_name member.0) → Fails e (member_in w)
          no_name e is =
              in_type e (fails_next (found_parts (cut_at mark parts.1)) (in_class class) member e found (fails_first (member_name member.0) (named class member.1) e is))

          module _ (name : List ℕ) (is_name : member_name member.0 ≡ Ok name) where
            pub no_last : (e : Refusal) → Fails e (last member.1) → Fails e (member_in w)
            no_last e is =
                in_type e (fails_next (found_parts (cut_at mark parts.1)) (in_class class) member e found
                (fails_next (member_name member.0) (named class member.1) name e is_name (fails_first (last member.1) (λ x. Ok (made class name x)) e is)))

            pub reads_member : (x : X) → last member.1 ≡ Ok x → member_in w ≡ Ok (made class name x)
            reads_member x is =
                reads_next (arrow_parts w) by_parts parts (made class name x) cut
                (reads_next (reference_type_in parts.0) (behind_class parts.1) class (made class name x) is_class
                (reads_next (found_parts (cut_at mark parts.1)) (in_class class) member (made class name x) found
                (reads_next (member_name member.0) (named class member.1) name (made class name x) is_name
                (reads_next (last member.1) (λ y. Ok (made class name y)) x (made class name x) is refl))))

-- ---- fields and methods

abbrev pub of_field : Ty → List ℕ → Ty → FieldRef
of_field class name ty = record { class = class; name = name; ty = ty }

pub field_parts : (w : List ℕ) → field_in w ≡ member_in 58 type_in of_field w
unfolding field_in
field_parts w = refl

abbrev pub of_method : Ty → List ℕ → Proto → MethodRef
of_method class name proto = record { class = class; name = name; proto = proto }

-- a prototype behind its parenthesis
abbrev pub opened : List ℕ → Result Proto LineKind
opened text = proto_in (40 ∷ text)

pub method_parts : (w : List ℕ) → method_in w ≡ member_in 40 opened of_method w
unfolding method_in
method_parts w = refl

behind_front : (front text : List ℕ) → drop (length front) (front ++ text) ≡ text
behind_front [] text = refl
behind_front (b ∷ front) text = behind_front front text

-- a prototype from its parenthesis on
pub from_mark : (own text rest : List ℕ) → text ≡ own ++ 40 ∷ rest → proto_in (take (length text - length own) (drop (length own) text)) ≡ opened rest
from_mark own text rest whole = ap proto_in (rest_range text (length own) ∙ ap (drop (length own)) whole ∙ behind_front own (40 ∷ rest))
