-- The units of items are tiled by what the items are.
use Rattle.std.proofs.Common.{◌≡◌, ◌+◌, ◌≤◌, ◌<◌, ◌%◌, ℕ, zero, suc, Bool, true, false, nat_lt, List, [], ◌∷◌, ◌++◌, length, take, drop, Option, Some, None, Ok, IsSome, if◌then◌else◌, refl, ap, sym, ◌∙◌, subst, arith, length-append, length-drop}
use Rattle.std.specs.Option.{unwrap_or}
use Rattle.std.proofs.lemmas.List.{take-append-le, drop-append-le, append-nil}
use Rattle.std.proofs.Math.Seq.{take-length, drop-length}
use Rattle.std.proofs.lemmas.Bool.{ltb-true, ltb-false}
use Rattle.dv_defs.specs.Formats.{format_at}
use Rattle.dv_defs.specs.Spelling.{plain, few, insn_eq, all_fit}
use Rattle.dv_defs.proofs.TilingLaws.{tiles_found}
use Rattle.dv_defs.specs.Tiling as tiling
use Rattle.dv_defs.specs.Tiling.{IsInsn, IsPayload, Tile}
use Rattle.dv_defs.specs.Layout.{AreTiles, item_spelling}
use Rattle.dv_draft.specs.declared.draft.Item.{Item}
use Rattle.dv_draft.specs.declared.draft.What.{What}
use Rattle.dv_draft.specs.declared.draft.What.TheVariants as what
use Rattle.dv_draft.specs.declared.pools.Pools.{Pools}
use Rattle.dv_asm.specs.Items.{item_at, size_of}
use Rattle.dv_asm.specs.Places.{end_of, address_of}
use Rattle.dv_asm.specs.Layout.{AreSpelled, spelling_of, units_of, padded}
use Rattle.dv_asm.specs.Tiles.{content_of, tiles_for, nops_between, tiles_of}
use Rattle.dv_asm.proofs.PlaceLemmas.{aligned_above, aligned_below}
use Rattle.dv_asm.proofs.UnitLemmas.{spelled_size}

-- one more tile at the end
tiles_append : (at : ℕ) (ts : List Tile) (us : List ℕ) (t : Tile) (vs : List ℕ) → AreTiles at ts us → t.at ≡ at + length us → item_spelling t.item ≡ Some vs → t.size ≡ length vs → AreTiles at (ts ++ t ∷ []) (us ++ vs)
tiles_append at [] us t vs none place spelled size =
    let whole : us ++ vs ≡ vs = ap (λ xs. xs ++ vs) none in
    let taken : take t.size (us ++ vs) ≡ vs = ap (take t.size) whole ∙ ap (λ n. take n vs) size ∙ take-length vs in
    let dropped : drop t.size (us ++ vs) ≡ [] = ap (drop t.size) whole ∙ ap (λ n. drop n vs) size ∙ drop-length vs in
    (omega (arith, ap length none), omega (arith, length-append us vs), spelled ∙ ap Some (sym taken), dropped)
tiles_append at (s ∷ ts) us t vs (place', within, spelled', rest) place spelled size =
    let later : drop s.size (us ++ vs) ≡ drop s.size us ++ vs = drop-append-le s.size us vs within in
    let P : List ℕ → Type 0 = λ xs. AreTiles (at + s.size) (ts ++ t ∷ []) xs in (
      place',
      omega (arith, length-append us vs),
      spelled' ∙ ap Some (sym (take-append-le s.size us vs within)),
      subst P (sym later) (tiles_append (at + s.size) ts (drop s.size us) t vs rest (omega (arith, place, length-drop s.size us)) spelled size),
    )

pad_by : (b : Bool) (ts : List Tile) (us : List ℕ) → AreTiles 0 ts us → AreTiles 0 (ts ++ (if b then record { at = length us; size = 1; item = IsInsn (plain 0 (few [])) } ∷ [] else [])) (if b then us ++ 0 ∷ [] else us)
unfolding format_at insn_eq
pad_by true ts us tiled = tiles_append 0 ts us (record { at = length us; size = 1; item = IsInsn (plain 0 (few [])) }) (0 ∷ []) tiled (omega arith) refl refl
pad_by false ts us tiled = let P : List Tile → Type 0 = λ xs. AreTiles 0 xs us in subst P (sym (append-nil ts)) tiled

pad_tiled : (end address : ℕ) (ts : List Tile) (us : List ℕ) → AreTiles 0 ts us → length us ≡ end → AreTiles 0 (ts ++ nops_between end address) (padded address us)
pad_tiled end address ts us tiled reached =
    let P : ℕ → Type 0 = λ n. AreTiles 0 (ts ++ nops_between n address) (padded address us) in
    subst P reached (pad_by (nat_lt (length us) address) ts us tiled)

-- units that end at an address or one before it end there once padded
padded_length : (b : Bool) (address : ℕ) (us : List ℕ) → nat_lt (length us) address ≡ b → length us ≤ address → address ≤ length us + 1 → length (if b then us ++ 0 ∷ [] else us) ≡ address
padded_length true address us e low high = let less = ltb-true (length us) address e in omega (arith, length-append us (0 ∷ []))
padded_length false address us e low high = let more = ltb-false (length us) address e in omega arith

content_tiled : (at size : ℕ) (o : Option tiling.Item) (ts : List Tile) (us vs : List ℕ) → (elim o [ None ↦ Some [] | Some x ↦ item_spelling x ]) ≡ Some vs → length vs ≡ size → length us ≡ at → AreTiles 0 ts us → AreTiles 0 (ts ++ tiles_for at size o) (us ++ vs)
content_tiled at size None ts us vs spelled sized reached tiled =
    let none : [] ≡ vs = cc in
    let P : List Tile → Type 0 = λ xs. AreTiles 0 xs (us ++ vs) in
    let Q : List ℕ → Type 0 = λ xs. AreTiles 0 ts xs in
    subst P (sym (append-nil ts)) (subst Q (sym (append-nil us) ∙ ap (λ xs. us ++ xs) none) tiled)
content_tiled at size (Some x) ts us vs spelled sized reached tiled =
    tiles_append 0 ts us (record { at = at; size = size; item = x }) vs tiled (omega arith) spelled (sym sized)

content_spelled : (items : List Item) (pools : Pools) (k : ℕ) (w : What) → (elim (content_of items pools k w) [ None ↦ Some [] | Some x ↦ item_spelling x ]) ≡ spelling_of items pools k w
content_spelled items pools k (what.Label name) = refl
content_spelled items pools k (what.Op op) = refl
content_spelled items pools k (what.Packed first names) = refl
content_spelled items pools k (what.Sparse keys names) = refl
content_spelled items pools k (what.Data width bytes) = refl

-- the tiles of the first k items, whose units end where these items end
pub record AreTiled (items : List Item) (pools : Pools) (k : ℕ) : Type 0 where
  pub tiled : AreTiles 0 (tiles_of items pools k) (units_of items pools k)
  pub reached : length (units_of items pools k) ≡ end_of items k

-- one more item, over what it is, where it stands and what stands before it
more_tiled : (end address size : ℕ) (content : Option tiling.Item) (spelled : Option (List ℕ)) (vs : List ℕ) (ts : List Tile) (us : List ℕ) → spelled ≡ Some vs → (elim content [ None ↦ Some [] | Some x ↦ item_spelling x ]) ≡ spelled → length vs ≡ size → end ≤ address → address ≤ end + 1 → AreTiles 0 ts us → length us ≡ end → AreTiles 0 ((ts ++ nops_between end address) ++ tiles_for address size content) (padded address us ++ unwrap_or spelled [])
more_tiled end address size content spelled vs ts us is content_is sized low high tiled reached =
    let here : unwrap_or spelled [] ≡ vs = ap (λ o. unwrap_or o []) is in
    let padded_to : length (padded address us) ≡ address = padded_length (nat_lt (length us) address) address us refl (omega (arith, reached)) (omega (arith, reached)) in
    let P : List ℕ → Type 0 = λ xs. AreTiles 0 ((ts ++ nops_between end address) ++ tiles_for address size content) (padded address us ++ xs) in
    subst P (sym here) (content_tiled address size content (ts ++ nops_between end address) (padded address us) vs (content_is ∙ is) sized padded_to (pad_tiled end address ts us tiled reached))

more_length : (end address size : ℕ) (spelled : Option (List ℕ)) (vs us : List ℕ) → spelled ≡ Some vs → length vs ≡ size → end ≤ address → address ≤ end + 1 → length us ≡ end → length (padded address us ++ unwrap_or spelled []) ≡ address + size
more_length end address size spelled vs us is sized low high reached =
    let here : length (unwrap_or spelled []) ≡ length vs = ap (λ o. length (unwrap_or o [])) is in
    let padded_to : length (padded address us) ≡ address = padded_length (nat_lt (length us) address) address us refl (omega (arith, reached)) (omega (arith, reached)) in
    omega (arith, length-append (padded address us) (unwrap_or spelled []), padded_to, here, sized)

one_past : (end address : ℕ) → address ≤ end + end % 2 → address ≤ end + 1
one_past end address high = omega arith

one_item : (items : List Item) (pools : Pools) (k : ℕ) (o : Option (List ℕ)) → spelling_of items pools k (item_at items k).what ≡ o → IsSome o → AreTiled items pools k → AreTiled items pools (suc k)
one_item items pools k None e some before = absurd some_none
  where
    some_none : ⊥
    some_none = cc
one_item items pools k (Some vs) e some before =
    let w : What = (item_at items k).what in
    record {
      tiled = more_tiled (end_of items k) (address_of items k) (size_of w) (content_of items pools k w) (spelling_of items pools k w) vs (tiles_of items pools k) (units_of items pools k) e (content_spelled items pools k w) (spelled_size items pools k w vs e) (aligned_above (end_of items k) (drop k items)) (one_past (end_of items k) (address_of items k) (aligned_below (end_of items k) (drop k items))) before.tiled before.reached;
      reached = more_length (end_of items k) (address_of items k) (size_of w) (spelling_of items pools k w) vs (units_of items pools k) e (spelled_size items pools k w vs e) (aligned_above (end_of items k) (drop k items)) (one_past (end_of items k) (address_of items k) (aligned_below (end_of items k) (drop k items))) before.reached;
    }

pub are_tiled : (items : List Item) (pools : Pools) → AreSpelled items pools → (k : ℕ) → k ≤ length items → AreTiled items pools k
are_tiled items pools spelled zero within = record { tiled = refl; reached = refl }
are_tiled items pools spelled (suc k) within =
    one_item items pools k (spelling_of items pools k (item_at items k).what) refl (spelled k (omega arith)) (are_tiled items pools spelled k (omega arith))

-- the units that a loop over all items has made
pub made_units : (items : List Item) (pools : Pools) (k : ℕ) (us : List ℕ) → k ≡ length items → us ≡ units_of items pools k → ((j : ℕ) → j < k → IsSome (spelling_of items pools j (item_at items j).what)) → all_fit 16 us ≡ true → tiling.tiling us ≡ Ok (tiles_of items pools (length items))
made_units items pools k us whole is spelled fitting =
    let P : ℕ → Type 0 = λ n. AreTiles 0 (tiles_of items pools n) us in
    let Q : List ℕ → Type 0 = λ xs. AreTiles 0 (tiles_of items pools k) xs in
    let each : AreSpelled items pools = λ j within. spelled j (omega (arith, whole)) in
    let here = are_tiled items pools each k (omega (arith, whole)) in
    tiles_found (tiles_of items pools (length items)) 0 us fitting (subst P whole (subst Q (sym is) here.tiled))
