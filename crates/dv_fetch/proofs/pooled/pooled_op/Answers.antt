use Rattle.std.proofs.Common.{◌≡◌, ◌∙◌, ◌%◌, ◌/◌, ℕ, List, Option, Some, Ok, refl, sym, ap}
use Rattle.std.specs.Prelude.{slice_get}
use Rattle.dv_defs.specs.declared.names.Ty.{Ty}
use Rattle.dv_defs.specs.Families as family
use Rattle.dv_defs.specs.Formats.{format_at}
use Rattle.dv_defs.specs.Op as def
use Rattle.dv_defs.specs.Op.{new_op, on_pool}
use Rattle.dv_ops.specs.declared.op.Op.TheVariants as op
use Rattle.dv_ops.specs.Meaning.{code_of}
use Rattle.dv_fetch.proofs.Formats.{spells_21c, spells_22c}
use Rattle.dv_fetch.proofs.pooled.pooled_op.Goals as goal

-- the place is the second unit
there : {A : Type 0} (xs : List A) (place second : ℕ) (x : A) → place ≡ second → slice_get xs place ≡ Some x → slice_get xs second ≡ Some x
there xs place second x same is = ap (slice_get xs) (sym same) ∙ is

pub returns-in_ok-string_named-in-26 : goal.returns-in_ok-string_named-in-26
unfolding format_at
returns-in_ok-string_named-in-26 c at us =
    let x = c.in_ok-string_named-in-26 in
    spells_21c c.args.image.now (code_of c.args.code.now) at c.args.first 26 c.in-26.is family.ConstString refl (op.ConstString (c.args.first / 256) x.field-0) c.args.second refl us
    (ap (λ (o : Option (List ℕ)). on_pool o (λ y. Ok (def.ConstString (c.args.first / 256) y))) (there (code_of c.args.code.now).body.strings c.from-place.result c.args.second x.field-0.now c.from-place.ensures x.ensures))

pub returns-in_ok-type_named-in-28 : goal.returns-in_ok-type_named-in-28
unfolding format_at
returns-in_ok-type_named-in-28 c at us =
    let x = c.in_ok-type_named-in-28 in
    spells_21c c.args.image.now (code_of c.args.code.now) at c.args.first 28 c.in-28.is family.ConstClass refl (op.ConstClass (c.args.first / 256) x.field-0) c.args.second refl us
    (ap (λ (o : Option (Ty)). on_pool o (λ y. Ok (def.ConstClass (c.args.first / 256) y))) (there (code_of c.args.code.now).method.info.types c.from-place.result c.args.second x.field-0.now c.from-place.ensures x.ensures))

pub returns-in_ok-type_named-in-31 : goal.returns-in_ok-type_named-in-31
unfolding format_at
returns-in_ok-type_named-in-31 c at us =
    let x = c.in_ok-type_named-in-31 in
    spells_21c c.args.image.now (code_of c.args.code.now) at c.args.first 31 c.in-31.is family.CheckCast refl (op.Cast (c.args.first / 256) x.field-0) c.args.second refl us
    (ap (λ (o : Option (Ty)). on_pool o (λ y. Ok (def.Cast (c.args.first / 256) y))) (there (code_of c.args.code.now).method.info.types c.from-place.result c.args.second x.field-0.now c.from-place.ensures x.ensures))

pub returns-in_ok-type_named-in-32 : goal.returns-in_ok-type_named-in-32
unfolding format_at
returns-in_ok-type_named-in-32 c at us =
    let x = c.in_ok-type_named-in-32 in
    spells_22c c.args.image.now (code_of c.args.code.now) at c.args.first 32 c.in-32.is family.InstanceOf refl (op.InstanceOf (c.args.first / 256 % 16) (c.args.first / 256 / 16) x.field-0) c.args.second refl us
    (ap (λ (o : Option (Ty)). on_pool o (λ y. Ok (def.InstanceOf (c.args.first / 256 % 16) (c.args.first / 256 / 16) y))) (there (code_of c.args.code.now).method.info.types c.from-place.result c.args.second x.field-0.now c.from-place.ensures x.ensures))

pub returns-in_ok-class_named-in-34 : goal.returns-in_ok-class_named-in-34
unfolding format_at
returns-in_ok-class_named-in-34 c at us =
    let i = c.args.image.now in
    let types = (code_of c.args.code.now).method.info.types in
    let x = c.in_ok-class_named-in-34 in
    spells_21c i (code_of c.args.code.now) at c.args.first 34 c.in-34.is family.NewInstance refl (op.New (c.args.first / 256) x.field-0) c.args.second refl us
    (ap (λ (n : ℕ). on_pool (slice_get types n) (new_op i (c.args.first / 256))) (sym c.from-place.ensures) ∙ x.ensures (c.args.first / 256))

pub returns-in_ok-type_named-in-35 : goal.returns-in_ok-type_named-in-35
unfolding format_at
returns-in_ok-type_named-in-35 c at us =
    let x = c.in_ok-type_named-in-35 in
    spells_22c c.args.image.now (code_of c.args.code.now) at c.args.first 35 c.in-35.is family.NewArray refl (op.NewArray (c.args.first / 256 % 16) (c.args.first / 256 / 16) x.field-0) c.args.second refl us
    (ap (λ (o : Option (Ty)). on_pool o (λ y. Ok (def.NewArray (c.args.first / 256 % 16) (c.args.first / 256 / 16) y))) (there (code_of c.args.code.now).method.info.types c.from-place.result c.args.second x.field-0.now c.from-place.ensures x.ensures))
