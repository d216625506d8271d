use Rattle.std.proofs.Common.{true, ◌≡◌, ℕ, ◌+◌, List, drop, get_or, ap, ◌∙◌, get_or-drop, drop-drop}
use Rattle.std.specs.Str.Iter.{chars_rest}
use Rattle.dv_lex.specs.Bytes.{is_hexadecimal}
use Rattle.dv_lex.proofs.Literals.Next.{four_next}
use Rattle.dv_lex.proofs.literal.next_four_digits.Goals as goal

-- the digit at this place, once what is in front of it is gone
digit_at : (bs rest : List ℕ) (i : ℕ) → rest ≡ drop i bs → is_hexadecimal (get_or bs (i + 0) 0) ≡ true → is_hexadecimal (get_or rest 0 0) ≡ true
digit_at bs rest i e is = ap (λ l. is_hexadecimal (get_or l 0 0)) e ∙ ap is_hexadecimal (get_or-drop i bs 0 0) ∙ is

-- one more is gone
one_more : (bs front rest : List ℕ) (i : ℕ) → front ≡ drop i bs → rest ≡ drop 1 front → rest ≡ drop (i + 1) bs
one_more bs front rest i e next = next ∙ ap (drop 1) e ∙ drop-drop 1 i bs

pub next_digit-requires-2 : goal.next_digit-requires-2
next_digit-requires-2 c =
    let bs = chars_rest c.args.rest.now in
    digit_at bs (chars_rest c.next_digit.new.rest) 1 c.next_digit.ensures.behind (four_next bs c.requires).second

pub next_digit-requires-3 : goal.next_digit-requires-3
next_digit-requires-3 c =
    let bs = chars_rest c.args.rest.now in
    let one = chars_rest c.next_digit.new.rest in
    let two = chars_rest c.next_digit-2.new.rest in
    digit_at bs two 2 (one_more bs one two 1 c.next_digit.ensures.behind c.next_digit-2.ensures.behind) (four_next bs c.requires).third

pub next_digit-requires-4 : goal.next_digit-requires-4
next_digit-requires-4 c =
    let bs = chars_rest c.args.rest.now in
    let one = chars_rest c.next_digit.new.rest in
    let two = chars_rest c.next_digit-2.new.rest in
    let three = chars_rest c.next_digit-3.new.rest in
    let behind = one_more bs one two 1 c.next_digit.ensures.behind c.next_digit-2.ensures.behind in
    digit_at bs three 3 (one_more bs two three 2 behind c.next_digit-3.ensures.behind) (four_next bs c.requires).fourth
