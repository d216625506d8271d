-- What words of each kind say, and that a class has a number that a word has room for.
use Rattle.std.proofs.Common.{◌≡◌, ◌<◌, ◌^◌, ◌/◌, ◌%◌, ℕ, Bool, true, false, refl, subst, arith}
use Rattle.std.specs.Prelude.{nat_eq}
use Rattle.dv_typing.specs.Demands.{is_lo, is_hi}
use Rattle.dv_typing.specs.declared.typing.RegType.TheVariants as ty
use Rattle.dv_typing.specs.RegTypes.{Types}
use Rattle.dv_typing.specs.Transfer.{after_result_long, write_two}
use Rattle.dv_bases.specs.declared.states.PendingWord.{PendingWord}
use Rattle.dv_bases.specs.declared.states.PendingWord.TheVariants as word
use Rattle.dv_bases.specs.States.{pending_of}
use Rattle.dv_bases.specs.declared.words.Reference.{Reference}
use Rattle.dv_bases.specs.declared.words.Part.{Part}
use Rattle.dv_bases.specs.declared.words.Part.TheVariants as part
use Rattle.dv_bases.specs.Words.{part_in}
use Rattle.dv_bases.specs.Bases.{Names, type_in}
use Rattle.dv_effects.specs.Effects.{this_with}

pub not_lo : (names : Names) (p : Part) → (p ≡ part.LongLo → ⊥) → false ≡ is_lo (type_in names p)
not_lo names part.LongLo other = absurd (other refl)
not_lo names p other = refl

pub not_hi : (names : Names) (p : Part) → (p ≡ part.LongHi → ⊥) → false ≡ is_hi (type_in names p)
not_hi names part.LongHi other = absurd (other refl)
not_hi names p other = refl

pub still_with : (names : Names) (p : Part) (b : Bool) → (p ≡ part.UninitThis → ⊥) → b ≡ this_with (type_in names p) b
still_with names part.UninitThis b other = absurd (other refl)
still_with names p b other = refl

-- without a long that is pending
pub no_long : (names : Names) (ts : Types) (k : ℕ) (q : PendingWord) → (q ≡ word.Long → ⊥) → write_two ts k ty.Conflict ty.Conflict ≡ after_result_long ts k (pending_of names q)
no_long names ts k word.Long other = absurd (other refl)
no_long names ts k word.None other = refl
no_long names ts k (word.One w) other = refl

abbrev base_in : Part → ℕ
base_in (part.Class r) = r.base
base_in p = 0

abbrev held_by : ℕ → Bool → Bool → Bool → Bool → Bool → Bool → Bool → Part
held_by rest a b c d e f g =
    elim a [
      | true ↦ part.Conflict
      | false ↦ elim b [
        | true ↦ part.Zero
        | false ↦ elim c [
          | true ↦ part.Int
          | false ↦ elim d [
            | true ↦ part.LongLo
            | false ↦ elim e [
              | true ↦ part.LongHi
              | false ↦ elim f [
                | true ↦ part.UninitThis
                | false ↦ elim g [ true ↦ part.Uninit rest | false ↦ part.Class (record { dims = rest % 256; base = rest / 256 }) ]
              ]
            ]
          ]
        ]
      ]
    ]

small_by : (rest : ℕ) → rest < 2 ^ 29 → (a b c d e f g : Bool) → base_in (held_by rest a b c d e f g) < 2 ^ 21
small_by rest small true b c d e f g = omega arith
small_by rest small false true c d e f g = omega arith
small_by rest small false false true d e f g = omega arith
small_by rest small false false false true e f g = omega arith
small_by rest small false false false false true f g = omega arith
small_by rest small false false false false false true g = omega arith
small_by rest small false false false false false false true = omega arith
small_by rest small false false false false false false false = omega (arith, small)

small_base : (w : ℕ) → w < 2 ^ 32 → base_in (part_in w) < 2 ^ 21
unfolding part_in
small_base w fits =
    small_by (w / 8) (omega (arith, fits)) (nat_eq (w % 8) 0) (nat_eq (w % 8) 1) (nat_eq (w % 8) 2) (nat_eq (w % 8) 3) (nat_eq (w % 8) 4)
    (nat_eq (w % 8) 5) (nat_eq (w % 8) 6)

pub class_has_room : (w : ℕ) (r : Reference) → w < 2 ^ 32 → part_in w ≡ part.Class r → r.base < 2 ^ 21
class_has_room w r fits e = subst (λ p. base_in p < 2 ^ 21) e (small_base w fits)
