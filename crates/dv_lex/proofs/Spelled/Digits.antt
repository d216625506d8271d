-- What digits stand for, from the left.
use Rattle.std.proofs.Common.{◌≡◌, ℕ, ◌+◌, ◌*◌, ◌<◌, ◌≤◌, List, [], ◌∷◌, length, get_or, drop, sym, ◌∙◌, arith}
use Rattle.std.proofs.Math.Nat.{mul-le-mul_left}
use Rattle.std.proofs.lemmas.List.{at_drop_more, at_drop_all}
use Rattle.dv_lex.specs.Literals.{digit_value}
use Rattle.dv_lex.specs.Numbers.{value_from}

-- more digits make no number smaller
grows : (base n : ℕ) (ds : List ℕ) → 0 < base → n ≤ value_from base n ds
unfolding value_from
grows base n [] h = omega arith
grows base n (d ∷ ds) h =
    let one : n * 1 ≤ n * base = mul-le-mul_left n h in
    omega (arith, one, grows base (n * base + digit_value d) ds h)

-- one more digit is read
pub next : (base : ℕ) (ds : List ℕ) (i n total : ℕ) → i < length ds → value_from base n (drop i ds) ≡ total → value_from base (n * base + digit_value (get_or ds i 0)) (drop (i + 1) ds) ≡ total
unfolding value_from
next base ds i n total lt h = sym (at_drop_more (value_from base n) ds i 0 lt) ∙ h

-- all digits are read
pub done : (base : ℕ) (ds : List ℕ) (i n total : ℕ) → length ds ≤ i → value_from base n (drop i ds) ≡ total → n ≡ total
unfolding value_from
done base ds i n total le h = sym (at_drop_all (value_from base n) ds i le) ∙ h

-- what is read with one more digit is no more than the whole
pub past : (base : ℕ) (ds : List ℕ) (i n total : ℕ) → 0 < base → i < length ds → value_from base n (drop i ds) ≡ total → n * base + digit_value (get_or ds i 0) ≤ total
past base ds i n total b lt h = omega (arith, grows base (n * base + digit_value (get_or ds i 0)) (drop (i + 1) ds) b, next base ds i n total lt h)
