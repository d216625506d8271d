-- A class's table is made from the methods by key that it and its superclasses have, and from those that interfaces offer.
use Rattle.std.specs.Prelude.{ℕ, ◌≡◌, ◌+◌, List, [], ◌∷◌, ◌++◌, flat_map, map, take, Some, slice_get}
use Rattle.std.specs.List.{range_with_len}
use Rattle.std.proofs.Common.{refl, ap, sym, subst, ◌∙◌, arith, append_assoc}
use Rattle.std.proofs.lemmas.List.{map-append, take_more}
use Rattle.std.proofs.lemmas.List.FromFn.{map-range_with_len_more}
use Rattle.std.proofs.lemmas.Option.{get_or_from_slice_get, slice_get_within}
use Rattle.dv_defs.specs.declared.image.ClassInfo.{ClassInfo}
use Rattle.dv_defs.specs.declared.names.MethodId.{MethodId}
use Rattle.dv_defs.specs.Images.{Image}
use Rattle.dv_defs.specs.LookUp.{interfaces_above, once}
use Rattle.dv_defs.specs.Pools.{Method, nearest, supers}
use Rattle.dv_defs.specs.Selecting.{callable_of_class}
use Rattle.dv_defs.specs.Linked.{callable_along, key_of}
use Rattle.law_linking.proofs.Members.{HasMethods}
use Rattle.dv_vtable.specs.Chains.{chain_of, entered_chain}
use Rattle.dv_vtable.specs.Numbered as by_class
use Rattle.dv_vtable.specs.Numbered.{numbered, numbers_of}
use Rattle.dv_vtable.specs.Offers.{offered_to}
use Rattle.dv_vtable.specs.Rows.{chain_at, nearest_id, offers_at}
use Rattle.dv_vtable.proofs.CallableLaws.{AreApart, chain_entries, landing, method_entries}
use Rattle.dv_vtable.proofs.KeyNumbers.{key_of_is}
use Rattle.dv_vtable.proofs.TableLaws.{chain_is}

-- ---- the methods of a chain

landing_is : (image : Image) (c : ℕ) → landing image (supers image c) ≡ nearest_id image c
unfolding nearest
landing_is image c = refl

numbered_entries : (image : Image) → HasMethods image → (v : Method → MethodId) (ms : List Method)
    → numbered (by_class.all_methods image.classes) (method_entries v ms) ≡ map (λ m. (key_of image m, v m)) ms
numbered_entries image has v [] = refl
numbered_entries image has v (m ∷ ms) =
    let here = sym (key_of_is image has m) in
    let rest = numbered_entries image has v ms in
    λ j. (here j, v m) ∷ rest j

-- the entries of a chain, by number
pub chain_told : (image : Image) (cs : List ClassInfo) → image.classes ≡ cs → HasMethods image → AreApart cs → (c : ℕ) (es : List (ℕ × MethodId)) (chain : List ℕ)
    → chain ≡ chain_of cs c → es ≡ numbered (by_class.all_methods cs) (entered_chain cs [] chain) → es ≡ chain_at image c
chain_told image cs is has apart c es chain walked entered =
    let own : AreApart image.classes = subst AreApart (sym is) apart in
    entered
    ∙ (ap (λ ns. numbered (by_class.all_methods cs) (entered_chain cs [] ns)) walked
    ∙ ((λ j. numbered (by_class.all_methods (sym is j)) (entered_chain (sym is j) [] (chain_of (sym is j) c)))
    ∙ (ap (λ ns. numbered (by_class.all_methods image.classes) (entered_chain image.classes [] ns)) (chain_is image c)
    ∙ (ap (numbered (by_class.all_methods image.classes)) (chain_entries image has own (supers image c))
    ∙ (numbered_entries image has (landing image (supers image c)) (callable_along image (supers image c))
    ∙ ap (λ v. map {B = ℕ × MethodId} (λ m. (key_of image m, v m)) (callable_along image (supers image c))) (landing_is image c))))))

-- what interfaces offer beside it
pub offers_told : (image : Image) (cs : List ClassInfo) → image.classes ≡ cs → (c : ℕ) (chain : List (ℕ × MethodId)) (supers_found found : List ℕ) (old new : List (ℕ × List MethodId))
    → chain ≡ chain_at image c → supers_found ≡ chain_of cs c → found ≡ once (flat_map (interfaces_above image) supers_found) → old ≡ []
    → new ≡ offered_to image (numbers_of chain) old (flat_map (callable_of_class image) found) → new ≡ offers_at image c
offers_told image cs is c chain supers_found found old new entered walked listed empty put =
    let up : supers_found ≡ supers image c = walked ∙ (ap (λ ds. chain_of ds c) (sym is) ∙ chain_is image c) in
    put ∙ (λ j. offered_to image (numbers_of (entered j)) (empty j)
    (flat_map (callable_of_class image) ((listed ∙ ap (λ ds. once (flat_map (interfaces_above image) ds)) up) j)))

-- ---- turns of loops

-- one more of a list
pub mapped_more : {X Y : Type 0} (f : X → Y) (xs : List X) (i : ℕ) (x : X) (old now new : List Y) (y : Y) → slice_get xs i ≡ Some x → y ≡ f x
    → now ≡ old ++ map f (take i xs) → new ≡ now ++ y ∷ [] → new ≡ old ++ map f (take (i + 1) xs)
mapped_more f xs i x old now new y at is so_far pushed =
    let more : take (i + 1) xs ≡ take i xs ++ x ∷ [] =
    take_more xs i x (slice_get_within xs i x at) ∙ ap (λ z. take i xs ++ z ∷ []) (get_or_from_slice_get xs i x x at) in
    pushed
    ∙ ((λ j. so_far j ++ is j ∷ [])
    ∙ (append_assoc old (map f (take i xs)) (f x ∷ [])
    ∙ ap (λ ys. old ++ ys) (sym (map-append f (take i xs) (x ∷ [])) ∙ ap (map f) (sym more))))

-- one more of a range
pub ranged_more : {Y : Type 0} (f : ℕ → Y) (n : ℕ) (now new : List Y) (y : Y) → y ≡ f n → now ≡ map f (range_with_len 0 n) → new ≡ now ++ y ∷ [] → new ≡ map f (range_with_len 0 (n + 1))
ranged_more f n now new y is so_far pushed =
    pushed ∙ ((λ j. so_far j ++ is j ∷ []) ∙ sym (map-range_with_len_more f 0 n n (omega arith)))
