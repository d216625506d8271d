use Rattle.std.proofs.Common.{◌≡◌, [], ◌∷◌, ◌++◌, sym, ap, ◌∙◌, subst, subst₂, ne_eqb}
use Rattle.std.specs.Str.Iter.{chars_rest}
use Rattle.std.specs.Char.Escape.{encode_utf16}
use Rattle.dv_lex.specs.Literals.{escape_unit}
use Rattle.dv_lex.proofs.Literals.Fronts.{IsReadTo, after_backslash, read_all, read_escape, read_raw}
use Rattle.dv_lex.proofs.literal.string_units.Goals as goal

pub next_escape-requires : goal.next_escape-requires
next_escape-requires c = (after_backslash (chars_rest c.loop-c.rest) (chars_rest c.next.new.self) c.in-Some.c c.loop-c.invariant.writes c.in-Some.ensures.steps.0 c.if-c-eq92.true).is

pub loop-c-preserved-in-Continue-1 : goal.loop-c-preserved-in-Continue-1
loop-c-preserved-in-Continue-1 c =
    let bs = chars_rest c.next.new.self in
    let units : c.push.new.self.items ≡ c.loop-c.units.items ++ escape_unit bs ∷ [] = c.in_ok-push.ensures.items ∙ ap (λ u. c.loop-c.units.items ++ u ∷ []) c.next_escape.ensures.value in
    subst₂ (IsReadTo c.args.literal.now) (sym units) (sym c.next_escape.ensures.behind)
    (read_escape c.args.literal.now c.loop-c.units.items (chars_rest c.loop-c.rest) bs c.in-Some.c c.loop-c.invariant c.in-Some.ensures.steps.0 c.if-c-eq92.true)

pub loop-c-preserved : goal.loop-c-preserved
loop-c-preserved c =
    let bs = chars_rest c.next.new.self in
    let units : c.extend_from_slice.new.self.items ≡ c.loop-c.units.items ++ encode_utf16 c.in-Some.c = c.in_ok-extend_from_slice.ensures.items ∙ ap (λ l. c.loop-c.units.items ++ l) c.encode_utf16.ensures.value in
    subst (λ l. IsReadTo c.args.literal.now l bs) (sym units)
    (read_raw c.args.literal.now c.loop-c.units.items (chars_rest c.loop-c.rest) bs c.in-Some.c c.loop-c.invariant c.in-Some.ensures.steps.0 (ne_eqb c.in-Some.c 92 c.if-c-eq92.false))

pub returns : goal.returns
returns c = λ units is. c.of.ensures ∙ read_all c.args.literal.now c.loop-c.units.items (chars_rest c.loop-c.rest) units c.loop-c.invariant c.in_default.ensures.steps.0.0 is
