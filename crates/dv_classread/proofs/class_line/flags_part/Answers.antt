use Rattle.std.proofs.Common.{sym, ◌∙◌}
use Rattle.dv_classread.proofs.Flags.{flag_again, flag_more, flags_small, no_flag_in_front, nothing_in_front, other_in_front}
use Rattle.dv_classread.proofs.class_line.flags_part.Goals as goal

pub returns-in_default-first : goal.returns-in_default-first
returns-in_default-first c =
    c.loop-rest.invariant.read
    ∙ other_in_front c.loop-rest.flags c.loop-rest.rest.now c.first-item.result c.in-len1-up.len_at_least c.first-item.is c.in_default-first.not-Word

pub returns-in_default-flag_of : goal.returns-in_default-flag_of
returns-in_default-flag_of c =
    c.loop-rest.invariant.read
    ∙ no_flag_in_front c.loop-rest.flags c.loop-rest.rest.now c.first-item.result c.in-Word.word c.in-len1-up.len_at_least c.first-item.is c.in-Word.is
    (sym c.flag_of.ensures ∙ c.in_default-flag_of.is)

pub returns-then-is_in : goal.returns-then-is_in
returns-then-is_in c =
    c.loop-rest.invariant.read
    ∙ flag_again c.loop-rest.flags c.loop-rest.rest.now c.first-item.result c.in-Word.word c.in-len1-up.len_at_least c.first-item.is c.in-Word.is
    c.in-Some.flag (sym c.flag_of.ensures ∙ c.in-Some.is) (sym c.is_in.ensures ∙ c.if-is_in.true)

pub loop-rest-preserved : goal.loop-rest-preserved
loop-rest-preserved c =
    let flags = c.loop-rest.flags in
    let f = c.in-Some.flag in
    let new = sym c.is_in.ensures ∙ c.if-is_in.false in
    record {
      read = c.loop-rest.invariant.read
          ∙ flag_more flags c.loop-rest.rest.now c.first-item.result c.in-Word.word c.in-len1-up.len_at_least c.first-item.is c.in-Word.is
          f c.bit-flags.result (sym c.flag_of.ensures ∙ c.in-Some.is) new c.bit-flags.ensures;
      small = flags_small f flags c.bit-flags.result c.loop-rest.invariant.small new c.bit-flags.ensures;
    }

pub returns : goal.returns
returns c = c.loop-rest.invariant.read ∙ nothing_in_front c.loop-rest.flags c.loop-rest.rest.now c.in_default.len_below
