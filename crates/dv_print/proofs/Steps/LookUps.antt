-- Look-ups by address: of switches, and of addresses that are named.
use Rattle.std.proofs.Common.{arith, ◌≡◌, ℕ, ◌+◌, ◌<◌, Bool, true, false, ◌||◌, List, [], ◌∷◌, ◌++◌, length, take, get_or, find, nat_eq, cond, Option, Some, None, if◌then◌else◌, refl, ap, sym, ◌∙◌}
use Rattle.std.specs.Prelude.{option_map}
use Rattle.std.specs.Option.{option_or}
use Rattle.std.specs.List.{flat_map, list_any}
use Rattle.std.proofs.lemmas.Bool.Decides.{nat_tests}
use Rattle.std.proofs.lemmas.List.{take_more}
use Rattle.std.proofs.lemmas.List.Folds.{find-append, list_any-append}
use Rattle.std.specs.BTreeMap.{is_at}
use Rattle.std.specs.Cmp.{unsigned_ties}
use Rattle.std.specs.Ordering.{nat_cmp}
use Rattle.dv_defs.specs.Body.{BodyValue}
use Rattle.dv_asm.specs.First.{when}
use Rattle.dv_draft.specs.declared.draft.What.TheVariants as what
use Rattle.dv_print.specs.declared.pieces.Piece.{Piece}
use Rattle.dv_print.specs.Numbers.{label_name}
use Rattle.dv_print.specs.Named.{piece_address, switches_to, is_label_address}
use Rattle.dv_print.specs.Drafting.{piece_item, with_no_line, labels_at, items_in}

mapped_or : {X Y : Type 0} (f : X → Y) (a b : Option X) → option_map f (option_or a b) ≡ option_or (option_map f a) (option_map f b)
mapped_or f None b = refl
mapped_or f (Some x) b = refl

one_by : (c : Bool) (p : Piece) → option_map piece_address (if c then Some p else None) ≡ when c p.at
one_by true p = refl
one_by false p = refl

-- one more piece is looked at
pub switch_more : (pieces : List Piece) (k : ℕ) (p : Piece) (address : ℕ) → k < length pieces → p ≡ get_or pieces k p → option_map piece_address (find (switches_to address) (take (k + 1) pieces)) ≡ option_or (option_map piece_address (find (switches_to address) (take k pieces))) (when (switches_to address p) p.at)
switch_more pieces k p address within at =
    let next : take (k + 1) pieces ≡ take k pieces ++ p ∷ [] = take_more pieces k p within ∙ ap (λ (x : Piece). take k pieces ++ x ∷ []) (sym at) in
    let found = switches_to address in
    ap (λ xs. option_map piece_address (find found xs)) next ∙
    (ap (option_map piece_address) (find-append found (take k pieces) (p ∷ [])) ∙
    (mapped_or piece_address (find found (take k pieces)) (find found (p ∷ [])) ∙
    ap (option_or (option_map piece_address (find found (take k pieces)))) (one_by (found p) p)))

-- ---- addresses that are named

turned : (a b : ℕ) → nat_eq a b ≡ nat_eq b a
turned a b = grind (arith, nat_tests)

-- a set's look-up is that of the definition
pub found_in_set : (addresses : List ℕ) (address : ℕ) → list_any (is_at (nat_cmp address)) addresses ≡ is_label_address addresses address
found_in_set addresses address = λ i. list_any (λ a. (sym (unsigned_ties address a) ∙ turned address a) i) addresses

or_false : (c : Bool) → (c || false) ≡ c
or_false true = refl
or_false false = refl

pushed : (addresses : List ℕ) (new address : ℕ) → is_label_address (addresses ++ new ∷ []) address ≡ (is_label_address addresses address || nat_eq new address)
pushed addresses new address = list_any-append (λ a. nat_eq a address) addresses (new ∷ []) ∙ ap (λ c. is_label_address addresses address || c) (or_false (nat_eq new address))

or_last : (b c : Bool) → cond b true c ≡ (c || b)
or_last true true = refl
or_last true false = refl
or_last false true = refl
or_last false false = refl

-- one more address is named
pub named_more : (list old new : List ℕ) (k address : ℕ) → k < length list → ((a : ℕ) → list_any (is_at (nat_cmp a)) new ≡ cond (is_at (nat_cmp (get_or list k 0)) a) true (list_any (is_at (nat_cmp a)) old)) → ((a : ℕ) → is_label_address old a ≡ is_label_address (take k list) a) → is_label_address new address ≡ is_label_address (take (k + 1) list) address
named_more list old new k address within added before =
    let next = get_or list k 0 in
    sym (found_in_set new address) ∙
    (added address ∙
    ((λ i. cond (sym (unsigned_ties next address) i) true ((found_in_set old address ∙ before address) i)) ∙
    (or_last (nat_eq next address) (is_label_address (take k list) address) ∙
    (sym (pushed (take k list) next address) ∙ ap (λ ns. is_label_address ns address) (sym (take_more list k 0 within))))))

label_same : (xs ys : List ℕ) → ((address : ℕ) → is_label_address xs address ≡ is_label_address ys address) → (address : ℕ) → labels_at xs address ≡ labels_at ys address
label_same xs ys same address = ap (λ (c : Bool). if c then with_no_line (what.Label (label_name address)) ∷ [] else []) (same address)

-- the items are the same for lists of the same addresses
pub items_same : (b : BodyValue) (pieces : List Piece) (xs ys : List ℕ) → ((address : ℕ) → is_label_address xs address ≡ is_label_address ys address) → items_in b pieces xs ≡ items_in b pieces ys
items_same b pieces xs ys same =
    λ i. flat_map (λ (p : Piece). label_same xs ys same p.at i ++ piece_item b pieces p ∷ []) pieces ++ label_same xs ys same (length b.units) i
