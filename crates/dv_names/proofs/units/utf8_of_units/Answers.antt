use Rattle.std.proofs.Common.{ℕ, ◌≡◌, ◌≤◌, ◌++◌, length, drop, Vec, Global, Result, Ok, Err, IfOk, List, ◌∙◌, sym, ap, subst, arith}
use Rattle.std.proofs.lemmas.List.{append-nil, at_drop_all}
use Rattle.std.specs.Str.{IsUtf8}
use Rattle.dv_defs.specs.Texts.{utf8}
use Rattle.dv_names.specs.Units.{units_of}
use Rattle.dv_names.proofs.Texts.{utf8_is}
use Rattle.dv_names.proofs.RoundTrip.{text_utf8, units_back}
use Rattle.dv_names.proofs.units.utf8_of_units.Goals as goal

-- no unit is left
all_made : (units : List ℕ) (at : ℕ) (made : List ℕ) → length units ≤ at → made ++ utf8 (drop at units) ≡ utf8 units → made ≡ utf8 units
all_made units at made le e = sym (append-nil made) ∙ ap (λ l. made ++ l) (sym (at_drop_all utf8 units at le)) ∙ e

-- a value that meets one fact meets what follows from it
such : {T E : Type 0} (P Q : T → Type 0) → ((x : T) → P x → Q x) → (r : Result T E) → IfOk r P → IfOk r Q
such P Q step (Ok x) p = step x p
such P Q step (Err e) p = p

pub returns-clause-text : goal.returns-clause-text
returns-clause-text c =
    let made = ap (λ (v : Vec ℕ Global). v.items) c.into_bytes.ensures.value ∙ all_made c.args.units.now c.loop-at.at _ c.loop-at-test.false c.loop-at.invariant in
    such (λ t. t ≡ c.into_bytes.result.items) (λ t. t ≡ utf8 c.args.units.now) (λ t is. is ∙ made) c.of.result c.of.ensures

pub returns-clause-utf8 : goal.returns-clause-utf8
returns-clause-utf8 c =
    such (λ t. t ≡ utf8 c.args.units.now) IsUtf8 (λ t is.
    let P : List ℕ → Type 0 = λ t. IsUtf8 t in
    subst P (sym (is ∙ utf8_is c.args.units.now)) (text_utf8 c.args.units.now (λ k. let fits = c.type_inv.units k in omega arith)))
    c.of.result (returns-clause-text c)

pub returns-clause-back : goal.returns-clause-back
returns-clause-back c = λ paired.
    such (λ t. t ≡ utf8 c.args.units.now) (λ t. units_of t ≡ c.args.units.now) (λ t is.
    ap units_of (is ∙ utf8_is c.args.units.now) ∙ units_back c.args.units.now (λ k. let fits = c.type_inv.units k in omega arith) paired)
    c.of.result (returns-clause-text c)
