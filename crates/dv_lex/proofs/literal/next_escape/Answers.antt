use Rattle.std.proofs.Common.{drop, sym, ap, ◌∙◌}
use Rattle.std.specs.Str.Iter.{chars_rest}
use Rattle.dv_lex.specs.Bytes.{begins_with_four, is_short}
use Rattle.dv_lex.specs.Literals.{short_unit}
use Rattle.dv_lex.proofs.Literals.Next.{IsByte, IsShort, escape_next, escape_some, short_next, unicode_next}
use Rattle.dv_lex.proofs.literal.next_escape.Goals as goal
use Rattle.dv_lex.proofs.literal.next_escape.Goals.{In-Some}

pub next_four_digits-requires : goal.next_four_digits-requires
next_four_digits-requires c =
    let bs = chars_rest c.args.rest.now in
    let next = escape_next bs (chars_rest c.next.new.self) c.in-Some-u.field-0 c.in-Some-u.ensures.steps.0 c.requires in
    ap begins_with_four next.behind ∙ (unicode_next bs c.requires (sym next.same ∙ c.in-Some-u.field-0-test)).four

-- the character behind the backslash, which is not u
next_is : (c : In-Some) → IsByte c.in-Some.c (chars_rest c.args.rest.now) (chars_rest c.next.new.self)
next_is c = escape_next (chars_rest c.args.rest.now) (chars_rest c.next.new.self) c.in-Some.c c.in-Some.ensures.steps.0 c.requires

short_is : (c : In-Some) → IsShort (chars_rest c.args.rest.now)
short_is c = short_next (chars_rest c.args.rest.now) c.requires (λ e. c.in-Some.c-test.1 ((next_is c).same ∙ e))

pub short_unit-requires : goal.short_unit-requires
short_unit-requires c = ap is_short (next_is c).same ∙ (short_is c).short

pub unreachable-requires : goal.unreachable-requires
unreachable-requires c = escape_some (chars_rest c.args.rest.now) c.requires c.in-None.ensures.steps.0.0

pub returns-in-Some-clause-value : goal.returns-in-Some-clause-value
returns-in-Some-clause-value c =
    let at = (goal.at.returns-in-Some-clause-value c).In-Some in
    c.short_unit.ensures ∙ ap short_unit (next_is at).same ∙ sym (short_is at).unit

pub returns-in-Some-clause-behind : goal.returns-in-Some-clause-behind
returns-in-Some-clause-behind c =
    let at = (goal.at.returns-in-Some-clause-behind c).In-Some in
    (next_is at).behind ∙ ap (λ n. drop n (chars_rest c.args.rest.now)) (sym (short_is at).size)
