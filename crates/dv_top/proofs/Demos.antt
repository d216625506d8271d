-- The text of a demo isn't too large.
use Rattle.std.proofs.Common.{◌≡◌, ℕ, zero, suc, ◌+◌, ◌*◌, ◌++◌, ◌<◌, ◌≤◌, true, List, length, length-append, arith, refl}
use Rattle.std.specs.Prelude.{nat_le, codes, decimal}
use Rattle.std.specs.Fmt.{signed_decimal}
use Rattle.std.proofs.lemmas.Bool.{leb-true}
use Rattle.std.proofs.lemmas.Fmt.{length-decimal-le, length_signed_le}
use Rattle.law_engine.proofs.Bits.{from_is}
use Rattle.dv_gen.specs.Demo.{call_text, calls_text, class_text, classes_text, main_head, main_tail, mixed, worker_head, worker_tail}
use Rattle.dv_top.specs.Laws.{DemosAreSmall}

-- ---- pieces

short : (text : List ℕ) (n : ℕ) → nat_le (length text) n ≡ true → length text ≤ n
short text n is = leb-true (length text) n is

joined : (a b : List ℕ) (m n : ℕ) → length a ≤ m → length b ≤ n → length (a ++ b) ≤ m + n
joined a b m n few more = omega (arith, few, more, length-append a b)

number_short : (n : ℕ) → n < 10000 → length (decimal n) ≤ 4
number_short n low = length-decimal-le 4 n (omega arith) (omega arith) (omega arith)

mixed_short : (number k : ℕ) → length (signed_decimal (mixed number k)) ≤ 11
mixed_short number k = let few = (from_is (number + 1000003 * k)).few in length_signed_le 10 (mixed number k) (omega (arith, few)) (omega (arith, few))

class_short : (number k : ℕ) → k < 10000 → length (class_text number k) ≤ 252
unfolding class_text
class_short number k low =
    let a : List ℕ = codes ".class LG" in
    let c : List ℕ = codes ";\n.super Ljava/lang/Object;\n.method static s(I)I\n.registers 2\nconst v0, " in
    let e : List ℕ = codes "\nxor-int p0, p0, v0\nmul-int/lit8 p0, p0, 31\nconst/16 v0, " in
    let g : List ℕ = codes "\nadd-int p0, p0, v0\nreturn p0\n.end method\n" in
    let b : List ℕ = decimal k in
    let d : List ℕ = signed_decimal (mixed number k) in
    joined a (b ++ (c ++ (d ++ (e ++ (b ++ g))))) 9 243 (short a 9 refl)
    (joined b (c ++ (d ++ (e ++ (b ++ g)))) 4 239 (number_short k low)
    (joined c (d ++ (e ++ (b ++ g))) 80 159 (short c 80 refl)
    (joined d (e ++ (b ++ g)) 11 148 (mixed_short number k) (joined e (b ++ g) 80 68 (short e 80 refl) (joined b g 4 64 (number_short k low) (short g 64 refl))))))

call_short : (k : ℕ) → k < 10000 → length (call_text k) ≤ 64
unfolding call_text
call_short k low =
    let a : List ℕ = codes "invoke-static {v0}, LG" in
    let c : List ℕ = codes ";->s(I)I\nmove-result v0\n" in
    joined a (decimal k ++ c) 24 40 (short a 24 refl) (joined (decimal k) c 4 36 (number_short k low) (short c 36 refl))

classes_short : (number k : ℕ) → k ≤ 10000 → length (classes_text number k) ≤ 252 * k
classes_short number zero few = omega arith
classes_short number (suc k) few =
    omega (arith, length-append (classes_text number k) (class_text number k), classes_short number k (omega arith), class_short number k (omega arith))

calls_short : (k : ℕ) → k ≤ 10000 → length (calls_text k) ≤ 64 * k
calls_short zero few = omega arith
calls_short (suc k) few = omega (arith, length-append (calls_text k) (call_text k), calls_short k (omega arith), call_short k (omega arith))

worker_head_short : length worker_head ≤ 1000
unfolding worker_head
worker_head_short = short worker_head 1000 refl

worker_tail_short : length worker_tail ≤ 1000
unfolding worker_tail
worker_tail_short = short worker_tail 1000 refl

main_head_short : length main_head ≤ 1000
unfolding main_head
main_head_short = short main_head 1000 refl

main_tail_short : length main_tail ≤ 1000
unfolding main_tail
main_tail_short = short main_tail 1000 refl

-- ---- all of it

sum : (a b c d e f g : List ℕ) → length a ≤ 252 * 1000 → length b ≤ 1000 → length c ≤ 64 * 1000 → length d ≤ 1000 → length e ≤ 1000 → length f ≤ 4 → length g ≤ 1000 → length (a ++ (b ++ (c ++ (d ++ (e ++ (f ++ g)))))) ≤ 8388608
sum a b c d e f g la lb lc ld le lf lg =
    omega (arith, la, lb, lc, ld, le, lf, lg, length-append a (b ++ (c ++ (d ++ (e ++ (f ++ g))))), length-append b (c ++ (d ++ (e ++ (f ++ g)))), length-append c (d ++ (e ++ (f ++ g))), length-append d (e ++ (f ++ g)), length-append e (f ++ g), length-append f g)

pub demos_are_small : DemosAreSmall
demos_are_small number classes threads few some =
    sum (classes_text number classes) worker_head (calls_text classes) worker_tail main_head (decimal threads) main_tail
    (omega (arith, classes_short number classes (omega arith))) worker_head_short (omega (arith, calls_short classes (omega arith))) worker_tail_short main_head_short (number_short threads (omega arith)) main_tail_short
