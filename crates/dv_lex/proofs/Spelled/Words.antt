-- A text that spells a number is a word.
use Rattle.std.proofs.Common.{◌≡◌, ℕ, Bool, true, false, List, [], ◌∷◌, ◌++◌, refl, ap, ◌∙◌, arith}
use Rattle.std.specs.Prelude.{codes}
use Rattle.std.specs.List.{list_all}
use Rattle.std.proofs.lemmas.Bool.Decides.{nat_tests}
use Rattle.std.proofs.lemmas.List.{length-append}
use Rattle.std.proofs.lemmas.List.Folds.{list_all-append}
use Rattle.dv_lex.specs.Bytes.{byte_class, is_plain}
use Rattle.dv_lex.specs.Numbers.{when, is_digit, is_suffix}
use Rattle.dv_lex.specs.Laws.Numbers.{NumbersAreWords}
use Rattle.dv_lex.proofs.Spelled.Texts.{head_true, tail_true, both}

-- a digit is a plain byte
plain_digit : (h : Bool) (b : ℕ) → is_digit h b ≡ true → is_plain b ≡ true
unfolding byte_class
plain_digit true b d = grind (arith, nat_tests)
plain_digit false b d = grind (arith, nat_tests)

-- and so are digits, a suffix, a sign and `0x`
plain_digits : (h : Bool) (ds : List ℕ) → list_all (is_digit h) ds ≡ true → list_all is_plain ds ≡ true
plain_digits h [] d = refl
plain_digits h (b ∷ ds) d = both (plain_digit h b (head_true _ _ d)) (plain_digits h ds (tail_true _ _ d))

plain_suffix : (w : List ℕ) → is_suffix w ≡ true → list_all is_plain w ≡ true
unfolding byte_class
plain_suffix [] s = refl
plain_suffix (b ∷ []) s = grind (arith, nat_tests)
plain_suffix (b ∷ c ∷ w) s = absurd (cc)

plain_sign : (m : Bool) → list_all is_plain (when m (codes "-")) ≡ true
unfolding byte_class
plain_sign true = refl
plain_sign false = refl

plain_base : (h : Bool) → list_all is_plain (when h (codes "0x")) ≡ true
unfolding byte_class
plain_base true = refl
plain_base false = refl

-- plain bytes behind plain bytes
joined : (xs ys : List ℕ) → list_all is_plain xs ≡ true → list_all is_plain ys ≡ true → list_all is_plain (xs ++ ys) ≡ true
joined xs ys h k = list_all-append is_plain xs ys ∙ both h k

pub number_is_word : NumbersAreWords
number_is_word text (n, s) =
    let sign = when n.negative (codes "-") in
    let base = when n.hexadecimal (codes "0x") in
    let plain = joined _ n.suffix (joined _ n.digits (joined sign base (plain_sign n.negative) (plain_base n.hexadecimal)) (plain_digits n.hexadecimal n.digits s.digits)) (plain_suffix n.suffix s.suffix) in
    (rw s.spelled (simp length-append (omega (arith, s.some))), ap (list_all is_plain) s.spelled ∙ plain)
