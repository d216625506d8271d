use Rattle.std.proofs.Common.{◌≡◌, ◌+◌, ◌%◌, ◌^◌, ◌≤◌, ◌<◌, ◌&&◌, ℕ, suc, Bool, false, List, [], ◌∷◌, ◌++◌, length, drop, get_or, nat_eq, if◌then◌else◌, ap, sym, ◌∙◌, arith, below_more, length-append}
use Rattle.std.proofs.lemmas.List.{get_or_read, get_or_append_left}
use Rattle.std.proofs.Math.Seq.{get_or-append_seam}
use Rattle.dv_draft.specs.declared.draft.Item.{Item}
use Rattle.dv_asm.specs.Items.{item_at, no_item, size_of}
use Rattle.dv_asm.specs.Places.{leads_to_payload, end_of, address_of}
use Rattle.dv_asm.proofs.PlaceLemmas.{AreSoFar, aligned_by}
use Rattle.dv_asm.proofs.places.addresses.Goals as goal

-- an item's address, where the list tells whether the item leads to a payload
aligned_as : (items : List Item) (leading : List Bool) (k end address : ℕ) (leads : Bool) → k < length leading → leads ≡ get_or leading k leads → get_or leading k false ≡ leads_to_payload (drop k items) → end ≡ end_of items k → address ≡ (if nat_eq (end % 2) 1 && leads then end + 1 else end) → address ≡ address_of items k
aligned_as items leading k end address leads within read tells ends aligned =
    let same : leads ≡ leads_to_payload (drop k items) = get_or_read leading k leads within read false ∙ tells in
    aligned ∙ (λ i. if nat_eq (ends i % 2) 1 && same i then ends i + 1 else ends i)

-- one more address
more_addresses : (items : List Item) (k end address size : ℕ) (addresses new : List ℕ) → AreSoFar items addresses end k → address ≡ address_of items k → size ≡ size_of (item_at items k).what → address + size < 2 ^ 62 → new ≡ addresses ++ address ∷ [] → AreSoFar items new (address + size) (k + 1)
more_addresses items k end address size addresses new before place sized small pushed =
    let P : ℕ → Type 0 = λ j. get_or new j 0 ≡ address_of items j in
    let Q : ℕ → Type 0 = λ j. address_of items j ≤ 2 ^ 62 in
    let read : (j : ℕ) → get_or new j 0 ≡ get_or (addresses ++ address ∷ []) j 0 = λ j. ap (λ (xs : List ℕ). get_or xs j 0) pushed in
    let last : get_or new k 0 ≡ address_of items k = ap (λ (j : ℕ). get_or new j 0) (sym before.count) ∙ (read (length addresses) ∙ (get_or-append_seam addresses address [] 0 ∙ place)) in
    record {
      count = omega (arith, ap length pushed, length-append addresses (address ∷ []), before.count);
      end_is = (λ i. place i + sized i) ∙ ap (end_of items) (let next : suc k ≡ k + 1 = omega arith in next);
      places_at = below_more P k (λ j within. read j ∙ get_or_append_left addresses (address ∷ []) 0 j (omega (arith, before.count)) ∙ before.places_at j within) last;
      small = below_more Q k before.small (omega (arith, place));
      end_small = small;
    }

-- the end of an item fits
sum_fits : (end address size : ℕ) (leads : Bool) → end < 2 ^ 62 → address ≡ (if nat_eq (end % 2) 1 && leads then end + 1 else end) → size ≤ 2 ^ 63 → address + size < 2 ^ 64
sum_fits end address size leads small aligned sized = omega (arith, (aligned_by end leads).1)

pub overflow_add-end : goal.overflow_add-end
overflow_add-end c =
    record { fits = sum_fits c.loop-k.end c.aligned-address.result c.size.result c.index.result.now c.loop-k.invariant.end_small c.aligned-address.ensures c.size.ensures.small }

pub loop-k-preserved : goal.loop-k-preserved
loop-k-preserved c =
    let items = c.args.items.now in
    let k = c.loop-k.k in
    let address : c.aligned-address.result ≡ address_of items k =
    aligned_as items c.in_ok-leading.leading.items k c.loop-k.end c.aligned-address.result c.index.result.now (omega (arith, c.in_ok-leading.ensures.count)) c.index.ensures
    (c.in_ok-leading.ensures.value k (omega arith)) c.loop-k.invariant.end_is c.aligned-address.ensures in
    let size : c.size.result ≡ size_of (item_at items k).what =
    c.size.ensures.value ∙ ap (λ (item : Item). size_of item.what) (get_or_read items k c.index-items-k.result (omega arith) c.index-items-k.is no_item) in
    more_addresses items k c.loop-k.end c.aligned-address.result c.size.result c.loop-k.addresses.items c.push.new.self.items c.loop-k.invariant address size c.if-end-ge-TOO_MANY.false c.in_ok-push.ensures.items
