use Rattle.std.proofs.Common.{◌≡◌, ℕ, ◌≤◌, List, [], ◌∷◌, ◌++◌, get_or, length, sym, ap, ◌∙◌, subst, arith, ne_eqb}
use Rattle.std.specs.Str.Iter.{chars_rest}
use Rattle.dv_lex.specs.Literals.{IsCharacter, Writes, escape_unit}
use Rattle.dv_lex.proofs.Literals.Fronts.{Escaped, after_backslash, nothing_left, raw}
use Rattle.dv_lex.proofs.literal.char_unit.Goals as goal
use Rattle.dv_lex.proofs.literal.char_unit.Goals.{After-chars-rest, In-Some-eq92}

-- what stands between the quotes means this unit
between : (c : After-chars-rest) (unit : ℕ) → IsCharacter unit c.args.literal.now → Writes 39 (unit ∷ []) (chars_rest c.chars-rest.result)
between c unit is = subst (Writes 39 (unit ∷ [])) (sym c.chars-rest.ensures.rest) (c.inner.ensures 39 (unit ∷ []) is)

-- an escape stands behind the backslash
behind : (c : In-Some-eq92) (unit : ℕ) → Writes 39 (unit ∷ []) (chars_rest c.chars-rest.result) → Escaped 39 (unit ∷ []) (chars_rest c.next.new.self)
behind c unit w =
    after_backslash (chars_rest c.chars-rest.result) (chars_rest c.next.new.self) c.in-Some-eq92.field-0 w c.in-Some-eq92.ensures.steps.0 c.in-Some-eq92.field-0-test

pub next_escape-requires : goal.next_escape-requires
next_escape-requires c =
    let at = goal.at.next_escape-requires c in
    (behind at.In-Some-eq92 c.requires.0 (between at.After-chars-rest c.requires.0 c.requires.1)).is

pub unreachable-requires : goal.unreachable-requires
unreachable-requires c =
    let at = goal.at.unreachable-requires c in
    let none = nothing_left (between at.After-chars-rest c.requires.0 c.requires.1) c.in-None.ensures.steps.0.0 in
    absurd (cc)

same_first : (u v : ℕ) (us vs : List ℕ) → u ∷ us ≡ v ∷ vs → v ≡ u
same_first u v us vs e = cc

pub returns-in-Some-eq92 : goal.returns-in-Some-eq92
returns-in-Some-eq92 c = λ unit is.
    let at = goal.at.returns-in-Some-eq92 c in
    let front = behind at.In-Some-eq92 unit (between at.After-chars-rest unit is) in
    c.next_escape.ensures.value ∙ same_first unit (escape_unit (chars_rest c.next.new.self)) [] front.more front.units

-- the first of some units
first_of : (xs more : List ℕ) (unit : ℕ) → 1 ≤ length xs → unit ∷ [] ≡ xs ++ more → get_or xs 0 0 ≡ unit
first_of [] more unit some e = absurd (omega arith)
first_of (x ∷ xs) more unit some e = same_first unit x [] (xs ++ more) e

pub returns-in-Some : goal.returns-in-Some
returns-in-Some c = λ unit is.
    let w = between (goal.at.returns-in-Some c).After-chars-rest unit is in
    let front = raw c.in-Some.c (chars_rest c.next.new.self) (ne_eqb c.in-Some.c 92 c.in-Some.c-test.1) (subst (Writes 39 (unit ∷ [])) c.in-Some.ensures.steps.0 w) in
    first_of c.encode_utf16.result.now front.0 unit c.encode_utf16.ensures.lower_bound (front.1 ∙ ap (λ l. l ++ front.0) (sym c.encode_utf16.ensures.value))
