-- The places of uninitialised objects in a state that fits are instructions.
use Rattle.std.proofs.Common.{◌≡◌, ℕ, true, [], ◌∷◌, zero, suc, Bool, false, Some, None, Option, sym, subst, ap, ◌∙◌}
use Rattle.std.specs.Prelude.{All, option_map, option_and_then}
use Rattle.std.proofs.lemmas.List.Elements.{All-head, All-tail}
use Rattle.dv_defs.specs.declared.names.ClassId.{ClassId}
use Rattle.dv_typing.specs.declared.typing.RegType.{RegType}
use Rattle.dv_typing.specs.declared.typing.RegType.TheVariants as ty
use Rattle.dv_typing.specs.declared.typing.RegState.{RegState}
use Rattle.dv_defs.specs.Images.{Image}
use Rattle.dv_defs.specs.Tiling.{begins_insn}
use Rattle.dv_defs.specs.Pools.{Method, is_constructor}
use Rattle.dv_defs.specs.Op.{Op, Invoke, Code}
use Rattle.dv_typing.specs.RegTypes.{Types, type_at}
use Rattle.dv_typing.specs.Demands.{made_at}
use Rattle.dv_typing.specs.Transfer.{first_of}
use Rattle.law_flow.specs.Fitting.{RegFits, StateFits, dims_met}
use Rattle.dv_demands.specs.Made.{place_of, receiver_place, made_for}

-- of a type
here : (most : ℕ) (code : Code) (t : RegType) (place : ℕ) → RegFits most code t → place_of t ≡ Some place → begins_insn code.tiles place ≡ true
here most code (ty.Uninit a) place fits e =
    let same : a ≡ place = cc in
    subst (λ (k : ℕ). begins_insn code.tiles k ≡ true) same fits
here most code t place fits e = absurd (cc)

-- of a register
among : (most : ℕ) (code : Code) (ts : Types) (k place : ℕ) → All (RegFits most code) ts → place_of (type_at ts k) ≡ Some place → begins_insn code.tiles place ≡ true
among most code [] k place all e = absurd (cc)
among most code (t ∷ ts) zero place all e = here most code t place (All-head (RegFits most code) t ts all) e
among most code (t ∷ ts) (suc k) place all e = among most code ts k place (All-tail (RegFits most code) t ts all) e

by_kind : (b : Bool) (most : ℕ) (code : Code) (ts : Types) (k place : ℕ) → All (RegFits most code) ts →
    elim b as (λ w. Option ℕ) [ true ↦ place_of (type_at ts k) | false ↦ None ] ≡ Some place → begins_insn code.tiles place ≡ true
by_kind true most code ts k place all e = among most code ts k place all e
by_kind false most code ts k place all e = absurd (cc)

-- of a receiver
pub receiver_begins : (image : Image) (code : Code) (s : RegState) (op : Op) (place : ℕ) → StateFits image code s → receiver_place op s.regs ≡ Some place → begins_insn code.tiles place ≡ true
receiver_begins image code s (Invoke c ks m) place fits e = by_kind (is_constructor m) (dims_met image code) code s.regs (first_of ks) place fits.regs e
receiver_begins image code s op place fits e = absurd (cc)

-- what is made there is made for the call
pub made_there : (image : Image) (m : Method) (op : Op) (ts : Types) (place : ℕ) (made : Option ClassId) → receiver_place op ts ≡ Some place →
    option_map (λ (c : ClassId). c.0) made ≡ made_at image m place → option_map (λ (c : ClassId). c.0) made ≡ made_for image m op ts
made_there image m op ts place made e h = h ∙ sym (ap (option_and_then (made_at image m)) e)
