-- The tables of methods are the same of images that are alike.
use Rattle.std.specs.Prelude.{ℕ, ◌≡◌, ◌+◌, ◌++◌, ◌&&◌, ◌||◌, Bool, true, false, not, List, [], ◌∷◌, length, map, filter, filter_map, flat_map, Option, Some, None, nat_eq, bytes_eq, option_map}
use Rattle.std.specs.List.{list_any, range_with_len, position_or_len}
use Rattle.std.proofs.Common.{refl, sym, ap, ◌∙◌, cond}
use Rattle.std.proofs.lemmas.List.{length-map, map-append}
use Rattle.dv_defs.specs.declared.names.Proto.{Proto}
use Rattle.dv_defs.specs.declared.image.Select.{Select}
use Rattle.dv_defs.specs.declared.image.Select.TheVariants as select
use Rattle.dv_defs.specs.Names.{init_name}
use Rattle.dv_defs.specs.Images.{Image}
use Rattle.dv_defs.specs.Pools.{Method, method_at, supers, nearest, is_abstract}
use Rattle.dv_defs.specs.Order.{has_number}
use Rattle.dv_defs.specs.LookUp.{interfaces_at, interfaces_above, superinterfaces, once, upward, is_method_of}
use Rattle.dv_defs.specs.Selecting.{is_callable, all_methods, callable_of_class, offered, offered_as, is_overridden, most_specific, only, chosen, itself, selected}
use Rattle.dv_defs.specs.Linked.{callable_along, is_new, overrides, first_of_each, keyed_at, entry, table_at, key_number, key_of}
use Rattle.law_linking.specs.Stripped.{stripped, method_stripped, method_info_stripped}
use Rattle.law_linking.proofs.Alike.{stripped_supers, stripped_interfaces, stripped_length, stripped_superinterfaces}
use Rattle.law_linking.proofs.AlikeMembers.{stripped_method_at, stripped_nearest}
use Rattle.law_linking.proofs.AlikeImages.{AreAlike, alike_by}
use Rattle.law_linking.proofs.AlikeFaults.{map_filtered}

-- a test that a function doesn't change
filter_map_kept : {X : Type 0} (g : X → X) (p q : X → Bool) → ((x : X) → p (g x) ≡ q x) → (xs : List X) → filter p (map g xs) ≡ map g (filter q xs)
filter_map_kept g p q same [] = refl
filter_map_kept {X} g p q same (x ∷ xs) = ap (λ (b : Bool). kept b (filter p (map g xs)) (g x)) (same x) ∙ here (q x) (filter_map_kept g p q same xs)
  where
    kept : Bool → List X → X → List X
    kept b ys y = cond b (y ∷ ys) ys

    here : (b : Bool) → filter p (map g xs) ≡ map g (filter q xs) → kept b (filter p (map g xs)) (g x) ≡ map g (kept b (filter q xs) x)
    here true rest = ap (λ ys. g x ∷ ys) rest
    here false rest = rest

any_kept : {X : Type 0} (g : X → X) (p q : X → Bool) → ((x : X) → p (g x) ≡ q x) → (xs : List X) → list_any p (map g xs) ≡ list_any q xs
any_kept g p q same [] = refl
any_kept g p q same (x ∷ xs) = λ j. same x j || any_kept g p q same xs j

pub stripped_all : (image : Image) → all_methods (stripped image) ≡ map method_stripped (all_methods image)
stripped_all image =
    (λ j. filter_map (λ id. stripped_method_at image id j) (range_with_len 0 (length-map image.methods method_info_stripped j))) ∙
    sym (map_filtered method_stripped (method_at image) (range_with_len 0 (length image.methods)))

stripped_callable : (image : Image) (c : ℕ) → callable_of_class (stripped image) c ≡ map method_stripped (callable_of_class image c)
stripped_callable image c =
    ap (filter (λ m. nat_eq m.info.class.0 c && is_callable m)) (stripped_all image) ∙
    filter_map_kept method_stripped (λ m. nat_eq m.info.class.0 c && is_callable m) (λ m. nat_eq m.info.class.0 c && is_callable m) (λ m. refl) (all_methods image)

stripped_new : (ms : List Method) (m : Method) → is_new (map method_stripped ms) (method_stripped m) ≡ is_new ms m
stripped_new ms m = ap not (any_kept method_stripped (overrides (method_stripped m)) (overrides m) (λ n. refl) ms)

pub stripped_along : (image : Image) (cs : List ℕ) → callable_along (stripped image) cs ≡ map method_stripped (callable_along image cs)
stripped_along image [] = refl
stripped_along image (c ∷ cs) =
    (λ j. stripped_along image cs j ++ filter (is_new (stripped_along image cs j)) (stripped_callable image c j)) ∙
    (ap (λ ms. map method_stripped (callable_along image cs) ++ ms)
    (filter_map_kept method_stripped (is_new (map method_stripped (callable_along image cs))) (is_new (callable_along image cs)) (stripped_new (callable_along image cs)) (callable_of_class image c)) ∙
    sym (map-append method_stripped (callable_along image cs) (filter (is_new (callable_along image cs)) (callable_of_class image c))))

-- ---- what interfaces offer

flat_mapped : (f : ℕ → List Method) (g : Method → Method) (cs : List ℕ) → flat_map (λ c. map g (f c)) cs ≡ map g (flat_map f cs)
flat_mapped f g [] = refl
flat_mapped f g (c ∷ cs) = ap (λ ms. map g (f c) ++ ms) (flat_mapped f g cs) ∙ sym (map-append g (f c) (flat_map f cs))

stripped_above_interfaces : (image : Image) (c : ℕ) → interfaces_above (stripped image) c ≡ interfaces_above image c
stripped_above_interfaces image c =
    ap (λ up. flat_map (upward up (length (stripped image).classes)) (up c)) (λ j d. stripped_interfaces image d j) ∙
    ap (λ n. flat_map (upward (interfaces_at image) n) (interfaces_at image c)) (stripped_length image)

stripped_offered : (image : Image) (c : ℕ) → offered (stripped image) c ≡ map method_stripped (offered image c)
stripped_offered image c =
    ap (λ (of : ℕ → List Method). flat_map of (once (superinterfaces (stripped image) c))) (λ j d. stripped_callable image d j) ∙
    (ap (λ cs. flat_map (λ d. map method_stripped (callable_of_class image d)) (once cs)) (stripped_superinterfaces image c) ∙
    flat_mapped (callable_of_class image) method_stripped (once (superinterfaces image c)))

stripped_overridden : (image : Image) (ms : List Method) (m : Method) → is_overridden (stripped image) (map method_stripped ms) (method_stripped m) ≡ is_overridden image ms m
stripped_overridden image ms m =
    any_kept method_stripped
    (λ n. has_number m.info.class.0 (interfaces_above (stripped image) n.info.class.0))
    (λ n. has_number m.info.class.0 (interfaces_above image n.info.class.0))
    (λ n. ap (has_number m.info.class.0) (stripped_above_interfaces image n.info.class.0)) ms

stripped_specific : (image : Image) (ms : List Method) → most_specific (stripped image) (map method_stripped ms) ≡ map method_stripped (most_specific image ms)
stripped_specific image ms =
    filter_map_kept method_stripped (λ m. not (is_overridden (stripped image) (map method_stripped ms) m)) (λ m. not (is_overridden image ms m)) (λ m. ap not (stripped_overridden image ms m)) ms

only_kept : (ms : List Method) → only (map method_stripped ms) ≡ only ms
only_kept [] = refl
only_kept (m ∷ []) = refl
only_kept (m ∷ n ∷ ms) = refl

stripped_chosen : (image : Image) (ms : List Method) → chosen (stripped image) (map method_stripped ms) ≡ chosen image ms
stripped_chosen image ms =
    ap (λ ns. only (filter (λ m. not (is_abstract m)) ns)) (stripped_specific image ms) ∙
    (ap only (filter_map_kept method_stripped (λ m. not (is_abstract m)) (λ m. not (is_abstract m)) (λ m. refl) (most_specific image ms)) ∙
    only_kept (filter (λ m. not (is_abstract m)) (most_specific image ms)))

stripped_offered_as : (image : Image) (c : ℕ) (name : List ℕ) (proto : Proto) → offered_as (stripped image) c name proto ≡ map method_stripped (offered_as image c name proto)
stripped_offered_as image c name proto =
    ap (filter (is_method_of name proto)) (stripped_offered image c) ∙
    filter_map_kept method_stripped (is_method_of name proto) (is_method_of name proto) (λ m. refl) (offered image c)

-- ---- selection

abbrev select_by : Option Method → Select → Select
select_by o none = elim o as (λ _. Select) [ Some m ↦ itself m | None ↦ none ]

itself_kept : (o : Option Method) (none : Select) → select_by (option_map method_stripped o) none ≡ select_by o none
itself_kept None none = refl
itself_kept (Some m) none = refl

pub stripped_selected : (image : Image) (c : ℕ) (name : List ℕ) (proto : Proto) → selected (stripped image) c name proto ≡ selected image c name proto
unfolding selected
stripped_selected image c name proto =
    ap (λ (s : Select). elim (bytes_eq name init_name) as (λ _. Select) [ true ↦ select.Abstract | false ↦ s ])
    (ap (λ (o : Option Method). select_by o (chosen (stripped image) (offered_as (stripped image) c name proto))) (stripped_nearest image c name proto) ∙
    (itself_kept (nearest image c name proto) (chosen (stripped image) (offered_as (stripped image) c name proto)) ∙
    ap (select_by (nearest image c name proto)) (ap (chosen (stripped image)) (stripped_offered_as image c name proto) ∙ stripped_chosen image (offered_as image c name proto))))

-- ---- tables

stripped_entry : (image : Image) (c : ℕ) (m : Method) → entry (stripped image) c (method_stripped m) ≡ entry image c m
stripped_entry image c m = stripped_selected image c m.def.name m.def.proto

stripped_first : (ms : List Method) → first_of_each (map method_stripped ms) ≡ map method_stripped (first_of_each ms)
stripped_first [] = refl
stripped_first (m ∷ ms) =
    ap (λ ns. method_stripped m ∷ ns)
    (ap (filter (λ n. not (overrides (method_stripped m) n))) (stripped_first ms) ∙
    filter_map_kept method_stripped (λ n. not (overrides (method_stripped m) n)) (λ n. not (overrides m n)) (λ n. refl) (first_of_each ms))

pub stripped_keyed_at : (image : Image) (c : ℕ) → keyed_at (stripped image) c ≡ map method_stripped (keyed_at image c)
stripped_keyed_at image c =
    let along = callable_along image (supers image c) in
    let own : callable_along (stripped image) (supers (stripped image) c) ≡ map method_stripped along =
    ap (callable_along (stripped image)) (stripped_supers image c) ∙ stripped_along image (supers image c) in
    (λ j. own j ++ first_of_each (filter (is_new (own j)) (stripped_offered image c j))) ∙
    (ap (λ ms. map method_stripped along ++ first_of_each ms)
    (filter_map_kept method_stripped (is_new (map method_stripped along)) (is_new along) (stripped_new along) (offered image c)) ∙
    (ap (λ ms. map method_stripped along ++ ms) (stripped_first (filter (is_new along) (offered image c))) ∙
    sym (map-append method_stripped along (first_of_each (filter (is_new along) (offered image c))))))

map_kept : {X Y : Type 0} (g : X → X) (f h : X → Y) → ((x : X) → f (g x) ≡ h x) → (xs : List X) → map f (map g xs) ≡ map h xs
map_kept g f h same [] = refl
map_kept g f h same (x ∷ xs) = λ j. same x j ∷ map_kept g f h same xs j

pub stripped_table_at : (image : Image) (c : ℕ) → table_at (stripped image) c ≡ table_at image c
stripped_table_at image c =
    ap (map (entry (stripped image) c)) (stripped_keyed_at image c) ∙
    map_kept method_stripped (entry (stripped image) c) (entry image c) (stripped_entry image c) (keyed_at image c)

pub alike_table_at : (a b : Image) → AreAlike a b → (c : ℕ) → table_at a c ≡ table_at b c
alike_table_at a b alike c = alike_by (λ image. table_at image c) (λ image. stripped_table_at image c) a b alike

-- ---- the numbers of names and prototypes

position_kept : (g : Method → Method) (p q : Method → Bool) → ((m : Method) → p (g m) ≡ q m) → (ms : List Method) → position_or_len p (map g ms) ≡ position_or_len q ms
position_kept g p q same [] = refl
position_kept g p q same (m ∷ ms) = λ j. cond (not (same m j)) (1 + position_kept g p q same ms j) 0

pub stripped_key_number : (image : Image) (name : List ℕ) (proto : Proto) → key_number (stripped image) name proto ≡ key_number image name proto
stripped_key_number image name proto =
    ap (position_or_len (is_method_of name proto)) (stripped_all image) ∙
    position_kept method_stripped (is_method_of name proto) (is_method_of name proto) (λ m. refl) (all_methods image)

pub alike_key_number : (a b : Image) → AreAlike a b → (name : List ℕ) (proto : Proto) → key_number a name proto ≡ key_number b name proto
alike_key_number a b alike name proto = alike_by (λ image. key_number image name proto) (λ image. stripped_key_number image name proto) a b alike

stripped_place_keys : (image : Image) (c : ℕ) → map (key_of (stripped image)) (keyed_at (stripped image) c) ≡ map (key_of image) (keyed_at image c)
stripped_place_keys image c =
    ap (map (key_of (stripped image))) (stripped_keyed_at image c) ∙
    map_kept method_stripped (key_of (stripped image)) (key_of image) (λ m. stripped_key_number image m.def.name m.def.proto) (keyed_at image c)

pub alike_place_keys : (a b : Image) → AreAlike a b → (c : ℕ) → map (key_of a) (keyed_at a c) ≡ map (key_of b) (keyed_at b c)
alike_place_keys a b alike c = alike_by (λ image. map (key_of image) (keyed_at image c)) (λ image. stripped_place_keys image c) a b alike
