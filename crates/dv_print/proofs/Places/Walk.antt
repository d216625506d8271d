-- Items that stand one after another, with no nop that layout puts between.
use Rattle.std.proofs.Common.{◌≡◌, ℕ, ◌+◌, ◌%◌, ◌<◌, ◌≤◌, zero, suc, Bool, true, false, ◌&&◌, List, [], ◌∷◌, length, drop, nat_eq, if◌then◌else◌, refl, ap, sym, ◌∙◌, subst, arith, drop-cons}
use Rattle.std.proofs.lemmas.Bool.Decides.{nat_tests}
use Rattle.std.proofs.Math.Seq.{drop-length}
use Rattle.dv_draft.specs.declared.draft.Item.{Item}
use Rattle.dv_draft.specs.declared.draft.What.{What}
use Rattle.dv_asm.specs.Items.{item_at, no_item, size_of}
use Rattle.dv_asm.specs.Places.{address_of, end_of, size_of_all, aligned, leads_to_payload}
use Rattle.dv_asm.proofs.PlaceLemmas.{aligned_above}

-- an end is no further than the end of all
pub ends_below : (items : List Item) (k n : ℕ) → end_of items k ≤ end_of items (k + n)
ends_below items k zero = let e : k ≡ k + 0 = omega arith in omega (arith, ap (end_of items) e)
ends_below items k (suc n) =
    let e : suc (k + n) ≡ k + suc n = omega arith in
    omega (arith, ends_below items k n, aligned_above (end_of items (k + n)) (drop (k + n) items), ap (end_of items) e)

aligned_by : (end : ℕ) (b : Bool) → (b ≡ true → end % 2 ≡ 0) → (if nat_eq (end % 2) 1 && b then end + 1 else end) ≡ end
aligned_by end true h = let even = h refl in grind (arith, nat_tests)
aligned_by end false h = none (nat_eq (end % 2) 1)
  where
    none : (c : Bool) → (if c && false then end + 1 else end) ≡ end
    none true = refl
    none false = refl

-- where no payload comes next, or the end is even, nothing is added
pub stays : (end : ℕ) (items : List Item) → (leads_to_payload items ≡ true → end % 2 ≡ 0) → aligned end items ≡ end
stays end items h = aligned_by end (leads_to_payload items) h

-- from one address to another the items stand one after another, with nothing between, and each is as it is to be where
-- it stands
abbrev pub StandFrom : (What → ℕ → Type 0) → ℕ → ℕ → List Item → Type 0
StandFrom IsAt to from [] = from ≡ to
StandFrom IsAt to from (x ∷ xs) = (aligned from (x ∷ xs) ≡ from) × IsAt x.what from × StandFrom IsAt to (from + size_of x.what) xs

-- the same item by item
pub record ArePlaced (IsAt : What → ℕ → Type 0) (items : List Item) (to : ℕ) : Type 0 where
  pub stays : (k : ℕ) → k < length items → address_of items k ≡ end_of items k
  pub placed : (k : ℕ) → k < length items → IsAt (item_at items k).what (address_of items k)
  pub size : size_of_all items ≡ to

first : (IsAt : What → ℕ → Type 0) (items : List Item) (k to : ℕ) → k < length items → StandFrom IsAt to (end_of items k) (drop k items) → StandFrom IsAt to (end_of items k) (item_at items k ∷ drop (suc k) items)
first IsAt items k to within s = let P : List Item → Type 0 = λ xs. StandFrom IsAt to (end_of items k) xs in subst P (drop-cons items k no_item within) s

still : (IsAt : What → ℕ → Type 0) (items : List Item) (k to : ℕ) → k < length items → StandFrom IsAt to (end_of items k) (drop k items) → address_of items k ≡ end_of items k
still IsAt items k to within s = ap (aligned (end_of items k)) (drop-cons items k no_item within) ∙ (first IsAt items k to within s).0

stand_behind : (IsAt : What → ℕ → Type 0) (items : List Item) (to k : ℕ) → StandFrom IsAt to 0 items → k ≤ length items → StandFrom IsAt to (end_of items k) (drop k items)
stand_behind IsAt items to zero s within = s
stand_behind IsAt items to (suc k) s within =
    let before = stand_behind IsAt items to k s (omega arith) in
    let P : ℕ → Type 0 = λ n. StandFrom IsAt to (n + size_of (item_at items k).what) (drop (suc k) items) in
    subst P (sym (still IsAt items k to (omega arith) before)) (first IsAt items k to (omega arith) before).2

pub are_placed : (IsAt : What → ℕ → Type 0) (items : List Item) (to : ℕ) → StandFrom IsAt to 0 items → ArePlaced IsAt items to
are_placed IsAt items to s = record {
  stays = λ k within. still IsAt items k to within (stand_behind IsAt items to k s (omega arith));
  placed = λ k within.
      let here = stand_behind IsAt items to k s (omega arith) in
      let P : ℕ → Type 0 = λ n. IsAt (item_at items k).what n in
      subst P (sym (still IsAt items k to within here)) (first IsAt items k to within here).1;
  size =
      let P : List Item → Type 0 = λ xs. StandFrom IsAt to (end_of items (length items)) xs in
      subst P (drop-length items) (stand_behind IsAt items to (length items) s (omega arith));
}
