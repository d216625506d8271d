-- The register types of values of declared types.
use Rattle.std.proofs.Common.{◌≡◌, ◌<◌, ◌+◌, ℕ, Bool, true, false, List, [], ◌∷◌, ◌++◌, length, take, get_or, refl, sym, ap, ◌∙◌, append_assoc, append-nil}
use Rattle.std.proofs.lemmas.List.{take_more}
use Rattle.dv_defs.specs.declared.names.Ty.{Ty}
use Rattle.dv_defs.specs.Types.{is_long}
use Rattle.dv_typing.specs.declared.typing.RegType.TheVariants as ty
use Rattle.dv_typing.specs.RegTypes.{Types, all_types, reg_types, single_type}

abbrev by_width : Ty → Bool → Types
by_width t b = elim b [ true ↦ ty.LongLo ∷ ty.LongHi ∷ [] | false ↦ single_type t ∷ [] ]

pub one_register : (t : Ty) → is_long t ≡ false → single_type t ∷ [] ≡ reg_types t
one_register t e = ap (by_width t) (sym e)

all_joined : (ps qs : List Ty) → all_types (ps ++ qs) ≡ all_types ps ++ all_types qs
all_joined [] qs = refl
all_joined (p ∷ ps) qs = ap (λ ts. reg_types p ++ ts) (all_joined ps qs) ∙ sym (append_assoc (reg_types p) (all_types ps) (all_types qs))

-- with one more of them
pub one_more : (ts : Types) (ps : List Ty) (i : ℕ) (d : Ty) → i < length ps → (ts ++ all_types (take i ps)) ++ reg_types (get_or ps i d) ≡ ts ++ all_types (take (i + 1) ps)
one_more ts ps i d within =
    append_assoc ts (all_types (take i ps)) (reg_types (get_or ps i d)) ∙
    ap (λ us. ts ++ us)
    (ap (λ us. all_types (take i ps) ++ us) (sym (append-nil (reg_types (get_or ps i d)))) ∙
    (sym (all_joined (take i ps) (get_or ps i d ∷ [])) ∙ ap all_types (sym (take_more ps i d within))))
