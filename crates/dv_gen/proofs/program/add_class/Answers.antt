use Rattle.dv_gen.specs.Demo.{class_text}
use Rattle.dv_gen.proofs.Joined.{joined}
use Rattle.dv_gen.proofs.program.add_class.Goals as goal

pub returns : goal.returns
unfolding class_text
returns c =
    joined _ _ _ _ _ _ _ _ _ _ _ _ _ _ _ c.in_ok-extend_from_slice.ensures.items c.in_ok-add_number.ensures c.in_ok-extend_from_slice-2.ensures.items
    c.in_ok-add_mixed.ensures c.in_ok-extend_from_slice-3.ensures.items c.in_ok-add_number-2.ensures c.in_ok-extend_from_slice-4.ensures.items
