use Rattle.std.proofs.Common.{◌≡◌, ◌∙◌, sym, ap, refl, ℕ, Bool, true, false, List, [], ◌∷◌, ◌++◌, Option, Some}
use Rattle.std.specs.Option.{option_or}
use Rattle.dv_boot.specs.Families.{object_natives, thread_natives, string_natives, own_natives}
use Rattle.dv_defs.specs.declared.run.Native.{Native}
use Rattle.dv_machine.specs.Calls.{native_among, is_signed, signature}
use Rattle.dv_boot.proofs.natives.native.Goals as goal

or_step : (x : Native) (r p q : Option Native) (b : Bool) → r ≡ option_or p q → elim b as (λ w. Option Native) [ true ↦ Some x | false ↦ r ] ≡ option_or (elim b as (λ w. Option Native) [ true ↦ Some x | false ↦ p ]) q
or_step x r p q true e = refl
or_step x r p q false e = e

among_more : (xs ys : List Native) (class name : List ℕ) → native_among (xs ++ ys) class name ≡ option_or (native_among xs class name) (native_among ys class name)
among_more [] ys class name = refl
among_more (x ∷ xs) ys class name =
    or_step x (native_among (xs ++ ys) class name) (native_among xs class name) (native_among ys class name) (is_signed class name (signature x)) (among_more xs ys class name)

-- what one family's function found, or else the next one's
among_both : (xs ys : List Native) (class name : List ℕ) (first second r : Option Native) → first ≡ native_among xs class name → second ≡ native_among ys class name → r ≡ option_or first second → r ≡ native_among (xs ++ ys) class name
among_both xs ys class name first second r e h m =
    m
    ∙ ap (λ (w : Option Native). option_or w second) e
    ∙ ap (λ (w : Option Native). option_or (native_among xs class name) w) h
    ∙ sym (among_more xs ys class name)

-- src/natives.rt:90:1
pub returns : goal.returns
returns c =
    let class = c.args.class.now in
    let name = c.args.name.now in
    let two = object_natives ++ thread_natives in
    let to_thread = among_both object_natives thread_natives class name _ _ _ c.of_object.ensures c.of_thread.ensures c.or.ensures in
    let to_string = among_both two string_natives class name _ _ _ to_thread c.of_string.ensures c.or-2.ensures in
    among_both (two ++ string_natives) own_natives class name _ _ _ to_string c.of_own.ensures c.or-3.ensures
