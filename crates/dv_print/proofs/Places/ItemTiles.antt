-- The tiles of items, and the item of a tile.
use Rattle.std.proofs.Common.{◌≡◌, ℕ, ◌<◌, ◌≤◌, zero, suc, Bool, true, false, ◌⊎◌, inl, inr, List, [], ◌∷◌, ◌++◌, length, nat_lt, if◌then◌else◌, refl, ap, sym, subst, arith}
use Rattle.std.proofs.lemmas.Bool.Decides.{nat_tests}
use Rattle.dv_defs.specs.Spelling.{plain, few}
use Rattle.dv_defs.specs.Tiling as tiling
use Rattle.dv_defs.specs.Tiling.{IsInsn, Tile}
use Rattle.dv_draft.specs.declared.draft.Item.{Item}
use Rattle.dv_draft.specs.declared.draft.What.{What}
use Rattle.dv_draft.specs.declared.pools.Pools.{Pools}
use Rattle.dv_asm.specs.Items.{item_at, size_of}
use Rattle.dv_asm.specs.Places.{address_of, end_of}
use Rattle.dv_asm.specs.Tiles.{content_of, tiles_for, nops_between, tiles_of}

abbrev pub tile : ℕ → ℕ → tiling.Item → Tile
tile at size x = record { at = at; size = size; item = x }

-- item k at its address; a label has no units
abbrev pub tiles_at : List Item → Pools → ℕ → What → List Tile
tiles_at items pools k w = tiles_for (address_of items k) (size_of w) (content_of items pools k w)

-- the nop that layout puts before a payload
abbrev pub nop : tiling.Item
nop = IsInsn (plain 0 (few []))

-- ---- membership

abbrev pub Mem : Tile → List Tile → Type 0
Mem t [] = ⊥
Mem t (s ∷ ts) = (s ≡ t) ⊎ Mem t ts

mem_left : (t : Tile) (xs ys : List Tile) → Mem t xs → Mem t (xs ++ ys)
mem_left t [] ys h = absurd h
mem_left t (x ∷ xs) ys (inl e) = inl e
mem_left t (x ∷ xs) ys (inr h) = inr (mem_left t xs ys h)

mem_right : (t : Tile) (xs ys : List Tile) → Mem t ys → Mem t (xs ++ ys)
mem_right t [] ys h = h
mem_right t (x ∷ xs) ys h = inr (mem_right t xs ys h)

mem_split : (t : Tile) (xs ys : List Tile) → Mem t (xs ++ ys) → Mem t xs ⊎ Mem t ys
mem_split t [] ys h = inr h
mem_split t (x ∷ xs) ys (inl e) = inl (inl e)
mem_split t (x ∷ xs) ys (inr h) = at (mem_split t xs ys h)
  where
    at : Mem t xs ⊎ Mem t ys → Mem t (x ∷ xs) ⊎ Mem t ys
    at (inl m) = inl (inr m)
    at (inr m) = inr m

-- the tile of an item is one of the tiles of the items
pub mem_to : (items : List Item) (pools : Pools) (k m : ℕ) (t : Tile) → k < m → tiles_at items pools k (item_at items k).what ≡ t ∷ [] → Mem t (tiles_of items pools m)
mem_to items pools k zero t h e = absurd (omega arith)
mem_to items pools k (suc m) t h e = at (nat_lt k m) refl (λ l. mem_to items pools k m t l e)
  where
    at : (b : Bool) → nat_lt k m ≡ b → (k < m → Mem t (tiles_of items pools m)) → Mem t (tiles_of items pools (suc m))
    at true l before = mem_left t (tiles_of items pools m ++ nops_between (end_of items m) (address_of items m)) _ (mem_left t (tiles_of items pools m) _ (before (grind (arith, nat_tests))))
    at false l before =
        let same : k ≡ m = grind (arith, nat_tests) in
        let P : ℕ → Type 0 = λ n. Mem t (tiles_at items pools n (item_at items n).what) in
        let Q : List Tile → Type 0 = λ ts. Mem t ts in
        mem_right t (tiles_of items pools m ++ nops_between (end_of items m) (address_of items m)) _ (subst P same (subst Q (sym e) (inl refl)))

-- ---- the item of a tile

-- a tile is that of an item
pub record OfItem (items : List Item) (pools : Pools) (t : Tile) : Type 0 where
  pub place : ℕ
  pub within : place < length items
  pub own : Mem t (tiles_at items pools place (item_at items place).what)

is_nop : (c : Bool) (end : ℕ) (t : Tile) → Mem t (if c then tile end 1 nop ∷ [] else []) → t.item ≡ nop
is_nop true end t (inl e) = ap (λ x. x.item) (sym e)
is_nop true end t (inr h) = absurd h
is_nop false end t h = absurd h

-- a tile of items is a nop that layout put there or an item's
pub of_item : (items : List Item) (pools : Pools) (m : ℕ) (t : Tile) → m ≤ length items → Mem t (tiles_of items pools m) → (t.item ≡ nop) ⊎ OfItem items pools t
of_item items pools zero t within h = absurd h
of_item items pools (suc m) t within h = at (mem_split t (tiles_of items pools m ++ nops_between (end_of items m) (address_of items m)) _ h) (λ before. of_item items pools m t (omega arith) before)
  where
    front : Mem t (tiles_of items pools m) ⊎ Mem t (nops_between (end_of items m) (address_of items m)) → (Mem t (tiles_of items pools m) → (t.item ≡ nop) ⊎ OfItem items pools t) → (t.item ≡ nop) ⊎ OfItem items pools t
    front (inl before) earlier = earlier before
    front (inr own) earlier = inl (is_nop (nat_lt (end_of items m) (address_of items m)) (end_of items m) t own)

    at : Mem t (tiles_of items pools m ++ nops_between (end_of items m) (address_of items m)) ⊎ Mem t (tiles_at items pools m (item_at items m).what) → (Mem t (tiles_of items pools m) → (t.item ≡ nop) ⊎ OfItem items pools t) → (t.item ≡ nop) ⊎ OfItem items pools t
    at (inl before) earlier = front (mem_split t (tiles_of items pools m) _ before) earlier
    at (inr own) earlier = inr (record { place = m; within = omega arith; own = own })
