-- One step of a loop that appends what belongs to each item.
use Rattle.std.proofs.Common.{◌≡◌, ℕ, ◌+◌, ◌<◌, List, [], ◌∷◌, ◌++◌, length, map, take, get_or, append_assoc, ap, sym, ◌∙◌}
use Rattle.std.specs.List.{flat_map}
use Rattle.std.proofs.lemmas.List.{take_more, flat_map_more, map_more}

-- the texts of items, where the item is in the list
pub one_further : {X Y : Type 0} (f : X → List Y) (xs : List X) (k : ℕ) (x : X) (start before now : List Y) → k < length xs → x ≡ get_or xs k x → before ≡ start ++ flat_map f (take k xs) → now ≡ before ++ f x → now ≡ start ++ flat_map f (take (k + 1) xs)
one_further f xs k x start before now within at so_far appended =
    appended ∙ (ap (λ ys. ys ++ f x) so_far ∙ (flat_map_more f start (take k xs) x ∙
    ap (λ zs. start ++ flat_map f zs) (sym (take_more xs k x within ∙ ap (λ z. take k xs ++ z ∷ []) (sym at)))))

-- the same, where the item is read from the list
pub one_read : {X Y : Type 0} (f : X → List Y) (xs : List X) (k : ℕ) (d : X) (start before now : List Y) → k < length xs → before ≡ start ++ flat_map f (take k xs) → now ≡ before ++ f (get_or xs k d) → now ≡ start ++ flat_map f (take (k + 1) xs)
one_read f xs k d start before now within so_far appended =
    appended ∙ (ap (λ ys. ys ++ f (get_or xs k d)) so_far ∙ (flat_map_more f start (take k xs) (get_or xs k d) ∙
    ap (λ zs. start ++ flat_map f zs) (sym (take_more xs k d within))))

-- one value for each item
pub one_mapped : {X Y : Type 0} (f : X → Y) (xs : List X) (k : ℕ) (d : X) (start before now : List Y) → k < length xs → before ≡ start ++ map f (take k xs) → now ≡ before ++ f (get_or xs k d) ∷ [] → now ≡ start ++ map f (take (k + 1) xs)
one_mapped f xs k d start before now within so_far appended =
    appended ∙ (ap (λ ys. ys ++ f (get_or xs k d) ∷ []) so_far ∙ (append_assoc start (map f (take k xs)) (f (get_or xs k d) ∷ []) ∙
    ap (λ zs. start ++ zs) (sym (map_more f xs k d within))))
