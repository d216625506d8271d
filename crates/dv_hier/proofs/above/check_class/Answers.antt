use Rattle.std.specs.Prelude.{option_and_then}
use Rattle.dv_defs.specs.LinkFaults.{final_at, names_no_class, wrong_kind}
use Rattle.dv_defs.specs.Numbering.{declared}
use Rattle.dv_defs.specs.Pools.{class_named}
use Rattle.dv_hier.proofs.AboveLaws.{kind_told, final_kind_told, kinds_checked}
use Rattle.dv_hier.proofs.above.check_class.Goals as goal

pub returns-then-has_wrong_kind : goal.returns-then-has_wrong_kind
returns-then-has_wrong_kind c =
    let class = c.args.class.now in
    λ boot i.
    let image = declared c.args.classes.now boot in
    kind_told class.name c.error_of.result (names_no_class image class) (wrong_kind image class) c.has_wrong_kind.result
    (final_at image (option_and_then (class_named image) class.parent)) (c.in_ok-check_names.ensures c.args.classes.now boot c.requires.names)
    (c.has_wrong_kind.ensures boot) c.if-has_wrong_kind.true c.error_of.ensures

pub returns-then-has_final_parent : goal.returns-then-has_final_parent
returns-then-has_final_parent c =
    let class = c.args.class.now in
    λ boot i.
    let image = declared c.args.classes.now boot in
    final_kind_told class.name c.error_of-then-has_final_parent.result (names_no_class image class) (wrong_kind image class) c.has_wrong_kind.result
    (final_at image (option_and_then (class_named image) class.parent)) c.has_final_parent.result (c.in_ok-check_names.ensures c.args.classes.now boot c.requires.names)
    (c.has_wrong_kind.ensures boot) c.if-has_wrong_kind.false (c.has_final_parent.ensures boot) c.if-has_final_parent.true c.error_of-then-has_final_parent.ensures

pub returns : goal.returns
returns c =
    let class = c.args.class.now in
    λ boot i.
    let image = declared c.args.classes.now boot in
    kinds_checked class.name (names_no_class image class) (wrong_kind image class) c.has_wrong_kind.result
    (final_at image (option_and_then (class_named image) class.parent)) c.has_final_parent.result (c.in_ok-check_names.ensures c.args.classes.now boot c.requires.names)
    (c.has_wrong_kind.ensures boot) c.if-has_wrong_kind.false (c.has_final_parent.ensures boot) c.if-has_final_parent.false
