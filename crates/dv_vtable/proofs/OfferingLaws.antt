-- Turns of loops over the superinterfaces of a class.
use Rattle.std.specs.Prelude.{ℕ, ◌≡◌, ◌<◌, ◌≤◌, ◌+◌, List, [], ◌∷◌, ◌++◌, length, take, flat_map, Option, slice_get, slice_index_or}
use Rattle.std.proofs.Common.{refl, ap, sym, ◌∙◌, get_or}
use Rattle.std.proofs.lemmas.List.{append-nil, take_all}
use Rattle.std.proofs.lemmas.Grind.{flat_map-append}
use Rattle.dv_defs.specs.declared.names.ClassId.{ClassId}
use Rattle.dv_defs.specs.declared.image.ClassInfo.{ClassInfo}
use Rattle.dv_defs.specs.declared.names.MethodId.{MethodId}
use Rattle.dv_defs.specs.Images.{Image}
use Rattle.dv_defs.specs.LookUp.{interfaces_above, once}
use Rattle.dv_defs.specs.Order.{numbers}
use Rattle.dv_defs.specs.Pools.{methods_of}
use Rattle.dv_defs.specs.Selecting.{callable_of_class}
use Rattle.law_linking.proofs.Members.{HasMethods}
use Rattle.dv_vtable.specs.Chains.{first_method}
use Rattle.dv_hier.specs.Interfaces.{added}
use Rattle.dv_vtable.specs.Numbered.{all_methods, numbers_in}
use Rattle.dv_vtable.specs.Offers.{offered_numbers, offered_to}
use Rattle.dv_hier.proofs.AddedLaws.{added_append, added_once, once_added}
use Rattle.dv_vtable.proofs.MarkLaws.{numbers_more}
use Rattle.dv_vtable.proofs.OfferLaws.{offered_more, offered_of_class}

-- lists joined, with one more
flat_more : {A : Type 0} (f : ℕ → List A) (cs : List ClassId) (i : ℕ) (c : ClassId) → i < length cs → c ≡ get_or cs i c
    → flat_map f (numbers (take (i + 1) cs)) ≡ flat_map f (numbers (take i cs)) ++ f c.0
flat_more f cs i c within is =
    ap (flat_map f) (numbers_more cs i c within is)
    ∙ (flat_map-append f (numbers (take i cs)) (c.0 ∷ []) ∙ ap (λ ys. flat_map f (numbers (take i cs)) ++ ys) (append-nil (f c.0)))

-- ---- superinterfaces

pub above_more : (interfaces : List (List ClassId)) (cs : List ClassId) (i : ℕ) (c : ClassId) (found new : List ℕ) (own : List ClassId) → i < length cs → c ≡ get_or cs i c
    → own ≡ slice_index_or interfaces c.0 [] → found ≡ added [] (flat_map (λ d. numbers (slice_index_or interfaces d [])) (numbers (take i cs))) → new ≡ added found (numbers own)
    → new ≡ added [] (flat_map (λ d. numbers (slice_index_or interfaces d [])) (numbers (take (i + 1) cs)))
above_more interfaces cs i c found new own within is same so_far put =
    let list : ℕ → List ℕ = λ d. numbers (slice_index_or interfaces d []) in
    put ∙ ((λ j. added (so_far j) (numbers (same j)))
    ∙ (sym (added_append [] (flat_map list (numbers (take i cs))) (list c.0)) ∙ ap (added []) (sym (flat_more list cs i c within is))))

added_each : (f : ℕ → List ℕ) (xs cs : List ℕ) → added xs (flat_map (λ c. once (f c)) cs) ≡ added xs (flat_map f cs)
added_each f xs [] = refl
added_each f xs (c ∷ cs) =
    added_append xs (once (f c)) (flat_map (λ c. once (f c)) cs)
    ∙ (ap (λ ys. added ys (flat_map (λ c. once (f c)) cs)) (added_once xs (f c))
    ∙ (added_each f (added xs (f c)) cs ∙ sym (added_append xs (f c) (flat_map f cs))))

pub above_all : (image : Image) (interfaces : List (List ClassId)) (cs : List ClassId) (i : ℕ) (found : List ℕ)
    → ((c : ℕ) → numbers (slice_index_or interfaces c []) ≡ once (interfaces_above image c)) → length cs ≤ i
    → found ≡ added [] (flat_map (λ d. numbers (slice_index_or interfaces d [])) (numbers (take i cs))) → found ≡ once (flat_map (interfaces_above image) (numbers cs))
above_all image interfaces cs i found listed over so_far =
    so_far
    ∙ ((λ j. added [] (flat_map (λ d. listed d j) (numbers (take_all i cs over j))))
    ∙ (added_each (interfaces_above image) [] (numbers cs) ∙ once_added (flat_map (interfaces_above image) (numbers cs))))

-- ---- what they offer

pub offers_more : (image : Image) (ns : List ℕ) (old es new : List (ℕ × List MethodId)) (cs : List ClassId) (i : ℕ) (c : ClassId) → i < length cs → c ≡ get_or cs i c
    → es ≡ offered_to image ns old (flat_map (callable_of_class image) (numbers (take i cs))) → new ≡ offered_to image ns es (callable_of_class image c.0)
    → new ≡ offered_to image ns old (flat_map (callable_of_class image) (numbers (take (i + 1) cs)))
offers_more image ns old es new cs i c within is so_far put =
    put ∙ (ap (λ fs. offered_to image ns fs (callable_of_class image c.0)) so_far
    ∙ (sym (offered_more image ns old (flat_map (callable_of_class image) (numbers (take i cs))) (callable_of_class image c.0))
    ∙ ap (offered_to image ns old) (sym (flat_more (callable_of_class image) cs i c within is))))

pub own_offered : (image : Image) (cs : List ClassInfo) → image.classes ≡ cs → HasMethods image → (ns : List ℕ) (es : List (ℕ × List MethodId)) (c first : ℕ) (own : List (Option ℕ))
    → first ≡ first_method cs c → own ≡ numbers_in (all_methods cs) (methods_of (slice_get cs c)) → offered_numbers ns es first own ≡ offered_to image ns es (callable_of_class image c)
own_offered image cs is has ns es c first own at are =
    (λ j. offered_numbers ns es (at j) (are j))
    ∙ ((λ j. offered_numbers ns es (first_method (sym is j) c) (numbers_in (all_methods (sym is j)) (methods_of (slice_get (sym is j) c))))
    ∙ offered_of_class image has ns c (methods_of (slice_get image.classes c)) es refl)
