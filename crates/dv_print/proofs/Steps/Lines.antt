-- One step of the loop over an array's elements, and the numbers of its elements.
use Rattle.std.proofs.Common.{◌≡◌, ℕ, ◌*◌, ◌-◌, ◌<◌, ◌^◌, zero, suc, List, ◌++◌, take, drop, arith, ap, sym, ◌∙◌, append_assoc}
use Rattle.std.specs.List.{flat_map}
use Rattle.dv_defs.specs.Numbers.{signed_at, low_first, elements}
use Rattle.dv_print.specs.Draft.{element_line}

-- the lines of so many elements
abbrev lines : ℕ → ℕ → List ℕ → List ℕ
lines width n bytes = flat_map (element_line width) (elements n width bytes)

first_element : (width n : ℕ) (bytes : List ℕ) → 0 < n → lines width n bytes ≡ element_line width (signed_at (8 * width) (low_first (take width bytes))) ++ lines width (n - 1) (drop width bytes)
first_element width zero bytes h = absurd (omega arith)
first_element width (suc n) bytes h =
    let e : n ≡ suc n - 1 = omega arith in
    ap (λ k. element_line width (signed_at (8 * width) (low_first (take width bytes))) ++ lines width k (drop width bytes)) e

-- one more element
pub element_more : (width n : ℕ) (rest all : List ℕ) (text : List ℕ) → 0 < n → text ++ flat_map (element_line width) (elements n width rest) ≡ all
    → (text ++ element_line width (signed_at (8 * width) (low_first (take width rest)))) ++ flat_map (element_line width) (elements (n - 1) width (drop width rest)) ≡ all
element_more width n rest all text h e =
    append_assoc text (element_line width (signed_at (8 * width) (low_first (take width rest)))) (lines width (n - 1) (drop width rest)) ∙
    (ap (λ xs. text ++ xs) (sym (first_element width n rest h)) ∙ e)
