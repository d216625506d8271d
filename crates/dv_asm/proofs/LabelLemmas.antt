-- The first place at which a test passes, one more item after another: of labels by their names, and of switches by the addresses that
-- they name.
use Rattle.std.proofs.Common.{◌≡◌, ◌+◌, ◌<◌, ◌≤◌, ℕ, Bool, true, false, not, cond, List, [], ◌∷◌, ◌++◌, length, map, take, get_or, position, nat_lt, nat_eq, Option, Some, None, is_some, refl, sym, ap, ◌∙◌, arith, length-append}
use Rattle.std.specs.Option.{option_or}
use Rattle.std.specs.List.{position_or_len}
use Rattle.std.proofs.lemmas.List.{map_more, length-map, take_more, length-take-le}
use Rattle.std.proofs.lemmas.List.Folds.{position_or_len_push}
use Rattle.std.proofs.lemmas.List.Sums.{prefix_len-le-length}
use Rattle.std.proofs.lemmas.Bool.Decides.{nat_tests}
use Rattle.dv_draft.specs.declared.draft.Item.{Item}
use Rattle.dv_asm.specs.First.{when}
use Rattle.dv_asm.specs.Items.{item_at, no_item, is_named}
use Rattle.dv_asm.specs.Places.{place_of}

pushed_by : (n len m : ℕ) (here : Bool) → n ≤ len → m ≡ cond (nat_eq n len) (len + cond here 0 1) n → cond (nat_lt m (len + 1)) (Some m) None ≡ option_or (cond (nat_lt n len) (Some n) None) (when here len)
pushed_by n len m here within is = grind (arith, nat_tests)

-- the first place at which a test passes, with one more element
position_push : {X : Type 0} (test : X → Bool) (xs : List X) (x : X) → position test (xs ++ x ∷ []) ≡ option_or (position test xs) (when (test x) (length xs))
position_push {X} test xs x =
    let pushed : List X = xs ++ x ∷ [] in
    let longer : length pushed ≡ length xs + 1 = omega (arith, length-append xs (x ∷ [])) in
    ap (λ (n : ℕ). cond (nat_lt (position_or_len test pushed) n) (Some (position_or_len test pushed)) None) longer ∙
    pushed_by (position_or_len test xs) (length xs) (position_or_len test pushed) (test x) (prefix_len-le-length (λ y. not (test y)) xs) (position_or_len_push test xs x)

-- the place of the first label of a name, with one more item
pub place_more : (items : List Item) (k : ℕ) (item : Item) (name : List ℕ) → k < length items → item ≡ get_or items k item → place_of (take (k + 1) items) name ≡ option_or (place_of (take k items) name) (when (is_named name item) k)
place_more items k item name within at =
    let taken : length (take k items) ≡ k = length-take-le k items (omega arith) in
    let next : take (k + 1) items ≡ take k items ++ item ∷ [] = take_more items k item within ∙ ap (λ (i : Item). take k items ++ i ∷ []) (sym at) in
    ap (λ (xs : List Item). place_of xs name) next ∙
    (position_push (is_named name) (take k items) item ∙
    ap (λ (n : ℕ). option_or (place_of (take k items) name) (when (is_named name item) n)) taken)

-- the first item for which a function gives what passes a test, with one more item
pub position_more : {Y : Type 0} (f : Item → Y) (test : Y → Bool) (items : List Item) (k : ℕ) → k < length items → position test (map f (take (k + 1) items)) ≡ option_or (position test (map f (take k items))) (when (test (f (item_at items k))) k)
position_more {Y} f test items k within =
    let done : List Y = map f (take k items) in
    let taken : length done ≡ k = length-map (take k items) f ∙ length-take-le k items (omega arith) in
    ap (position test) (map_more f items k no_item within) ∙
    (position_push test done (f (item_at items k)) ∙
    ap (λ (n : ℕ). option_or (position test done) (when (test (f (item_at items k))) n)) taken)

-- what stands under a key once another key, under which nothing stood, has a value
pub first_kept : {V : Type 0} (same : Bool) (here old new : Option V) (v : V) → (same ≡ true → old ≡ here) → is_some here ≡ false → new ≡ cond same (Some v) old → new ≡ option_or old (when same v)
first_kept true here None new v alike absent put = put
first_kept true here (Some w) new v alike absent put = let some : Some w ≡ here = alike refl in let there : is_some here ≡ true = ap is_some (sym some) in absurd (cc)
first_kept false here None new v alike absent put = put
first_kept false here (Some w) new v alike absent put = put
