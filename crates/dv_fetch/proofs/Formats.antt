-- What the units of an instruction spell, by the format of its opcode.
use Rattle.std.proofs.Common.{◌≡◌, ◌∙◌, ◌%◌, ◌/◌, ◌≤◌, ℕ, zero, suc, Bool, true, false, List, ◌∷◌, [], take, Option, Some, Ok, sym, ap, refl, arith}
use Rattle.std.specs.Prelude.{◌&&◌, nat_le, drop}
use Rattle.std.specs.List.{list_all}
use Rattle.std.proofs.lemmas.Option.{same_Some}
use Rattle.dv_defs.specs.declared.code.Insn.{Insn}
use Rattle.dv_defs.specs.Decoding.{Sized, five, is_zero, read_by, read_in, where_valid, where_zero}
use Rattle.dv_defs.specs.Families.{Family, family_at}
use Rattle.dv_defs.specs.Formats.{Format, F10x, F11x, F12x, F21c, F22c, F23x, F35c, format_at}
use Rattle.dv_defs.specs.Images.{Image}
use Rattle.dv_defs.specs.Op.{Code, named_registers, op_of, resolve, resolve_by}
use Rattle.dv_defs.specs.Spelling.{few, plain, with_index}
use Rattle.dv_ops.specs.declared.op.Op.{Op}
use Rattle.dv_ops.specs.Meaning.{meant}
use Rattle.dv_fetch.specs.Spelled.{Spells}

zero_part : (n : ℕ) (x : Option Sized) (z : Sized) → where_zero n x ≡ Some z → x ≡ Some z
zero_part zero x z e = e
zero_part (suc n) x z e = absurd (cc e)

valid_part : (b : Bool) (x : Option Sized) (z : Sized) → where_valid b x ≡ Some z → x ≡ Some z
valid_part true x z e = e
valid_part false x z e = absurd (cc e)

module _ (image : Image) (code : Code) (at first : ℕ) (k : ℕ) (opcode : first % 256 ≡ k) (fam : Family) (family : family_at k ≡ Some fam) (op : Op) where
  -- the one instruction that these units spell means what its family says
  spells : (f : Format) (us : List ℕ) (i : Insn) (n : ℕ) → i.op ≡ k → format_at k ≡ Some f → ((z : Sized) → read_in f k (first / 256) us ≡ Some z → record { insn = i; size = n } ≡ z) → resolve image code at i fam ≡ Ok (meant code at op) →
      Spells image code at (first ∷ us) op n
  spells f us i n same format reads means = record {
    means = λ insn size here.
        let z : Sized = record { insn = insn; size = size } in
        let is = reads z (ap (λ (o : Option Format). read_by o k (first / 256) us) (sym format) ∙ (ap (λ (m : ℕ). read_by (format_at m) m (first / 256) us) (sym opcode) ∙ here)) in (
          ap (λ (y : Sized). op_of image code at y.insn) (sym is) ∙ (ap (resolve_by image code at i) (ap family_at same ∙ family) ∙ means),
          ap (λ (y : Sized). y.size) (sym is),
        );
  }

  pub spells_10x : format_at k ≡ Some F10x → (us : List ℕ) → resolve image code at (plain k (few [])) fam ≡ Ok (meant code at op) → Spells image code at (first ∷ us) op 1
  spells_10x format us means = spells F10x us (plain k (few [])) 1 refl format (λ z e. same_Some _ z (zero_part (first / 256) _ z e)) means

  pub spells_11x : format_at k ≡ Some F11x → (us : List ℕ) → resolve image code at (plain k (few (first / 256 ∷ []))) fam ≡ Ok (meant code at op) → Spells image code at (first ∷ us) op 1
  spells_11x format us means = spells F11x us (plain k (few (first / 256 ∷ []))) 1 refl format (λ z e. same_Some _ z e) means

  pub spells_12x : format_at k ≡ Some F12x → (us : List ℕ) → resolve image code at (plain k (few (first / 256 % 16 ∷ first / 256 / 16 ∷ []))) fam ≡ Ok (meant code at op) → Spells image code at (first ∷ us) op 1
  spells_12x format us means = spells F12x us (plain k (few (first / 256 % 16 ∷ first / 256 / 16 ∷ []))) 1 refl format (λ z e. same_Some _ z e) means

  module _ (second : ℕ) where
    pub spells_23x : format_at k ≡ Some F23x → (us : List ℕ) → resolve image code at (plain k (few (first / 256 ∷ second % 256 ∷ second / 256 ∷ []))) fam ≡ Ok (meant code at op) →
        Spells image code at (first ∷ second ∷ us) op 2
    spells_23x format us means = spells F23x (second ∷ us) (plain k (few (first / 256 ∷ second % 256 ∷ second / 256 ∷ []))) 2 refl format (λ z e. same_Some _ z e) means

    pub spells_21c : format_at k ≡ Some F21c → (us : List ℕ) → resolve image code at (with_index k (few (first / 256 ∷ [])) second) fam ≡ Ok (meant code at op) → Spells image code at (first ∷ second ∷ us) op 2
    spells_21c format us means = spells F21c (second ∷ us) (with_index k (few (first / 256 ∷ [])) second) 2 refl format (λ z e. same_Some _ z e) means

    pub spells_22c : format_at k ≡ Some F22c → (us : List ℕ) → resolve image code at (with_index k (few (first / 256 % 16 ∷ first / 256 / 16 ∷ [])) second) fam ≡ Ok (meant code at op) →
        Spells image code at (first ∷ second ∷ us) op 2
    spells_22c format us means = spells F22c (second ∷ us) (with_index k (few (first / 256 % 16 ∷ first / 256 / 16 ∷ [])) second) 2 refl format (λ z e. same_Some _ z e) means

    pub spells_35c : (third : ℕ) → format_at k ≡ Some F35c → (us : List ℕ) → resolve image code at (with_index k (few (take (first / 256 / 16) (five (first / 256 % 16) third))) second) fam ≡ Ok (meant code at op) →
        Spells image code at (first ∷ second ∷ third ∷ us) op 3
    spells_35c third format us means =
        let a = first / 256 / 16 in
        let words = five (first / 256 % 16) third in
        spells F35c (second ∷ third ∷ us) (with_index k (few (take a words)) second) 3 refl format (λ z e. same_Some _ z (valid_part (nat_le a 5 && list_all is_zero (drop a words)) _ z e)) means

-- the registers of an instruction of five at most are those that it names
pub named_few : (n a b c d e : ℕ) → n ≤ 5 → named_registers (few (take n (a ∷ b ∷ c ∷ d ∷ e ∷ []))) ≡ take n (a ∷ b ∷ c ∷ d ∷ e ∷ [])
named_few zero a b c d e less = refl
named_few (suc zero) a b c d e less = refl
named_few (suc (suc zero)) a b c d e less = refl
named_few (suc (suc (suc zero))) a b c d e less = refl
named_few (suc (suc (suc (suc zero)))) a b c d e less = refl
named_few (suc (suc (suc (suc (suc zero))))) a b c d e less = refl
named_few (suc (suc (suc (suc (suc (suc n)))))) a b c d e less = absurd (omega (arith, less))
