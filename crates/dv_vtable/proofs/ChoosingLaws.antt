-- What is selected of several methods, by marks of the interfaces above theirs.
use Rattle.std.specs.Prelude.{ℕ, ◌≡◌, ◌<◌, ◌≤◌, ◌+◌, Bool, true, false, ◌||◌, not, List, [], ◌∷◌, ◌++◌, length, take, drop, filter, Option, Some, None, nat_eq, option_map, if◌then◌else◌}
use Rattle.std.specs.List.{cons_option}
use Rattle.std.proofs.Common.{refl, ap, sym, ◌∙◌, arith, cond, get_or}
use Rattle.std.proofs.lemmas.Bool.Decides.{nat_tests}
use Rattle.std.proofs.lemmas.List.{drop_all, take_all, take_more}
use Rattle.std.proofs.lemmas.List.Elements.{filter_agree, filter_map-append}
use Rattle.std.proofs.lemmas.List.Folds.{list_any-append}
use Rattle.dv_defs.specs.declared.class.MethodDef.{MethodDef}
use Rattle.dv_defs.specs.declared.names.ClassId.{ClassId}
use Rattle.dv_defs.specs.declared.names.MethodId.{MethodId}
use Rattle.dv_defs.specs.declared.image.Select.{Select}
use Rattle.dv_defs.specs.declared.image.Select.TheVariants as select
use Rattle.dv_defs.specs.Images.{Image}
use Rattle.dv_defs.specs.LookUp.{interfaces_above, once}
use Rattle.dv_defs.specs.Order.{has_number, numbers}
use Rattle.dv_defs.specs.Pools.{Method, is_abstract, method_at}
use Rattle.dv_defs.specs.Selecting.{chosen, is_overridden, itself, most_specific, only}
use Rattle.law_linking.specs.Ordered.{IsOrdered}
use Rattle.law_linking.proofs.OnceNumbers.{has_once}
use Rattle.dv_vtable.specs.Choosing.{above_any, also_all, is_unmarked, joined, methods_at}
use Rattle.dv_vtable.specs.Sources.{itself_at, of_method}
use Rattle.dv_vtable.proofs.SourceLaws.{not_above, number_is, shown_method}

-- ---- marks

or_none : (b : Bool) → (b || false) ≡ b
or_none true = refl
or_none false = refl

-- the interfaces above a method's own
pub marked_above : (image : Image) (id : MethodId) (class : ClassId) (def : MethodDef) → Some (class, def) ≡ option_map of_method (method_at image id.0)
    → (cs above : List ClassId) → cs ≡ above → numbers above ≡ once (interfaces_above image class.0) → (d : ℕ)
    → has_number d (numbers cs) ≡ above_any image (methods_at image (id ∷ [])) d
marked_above image id class def shown cs above same listed d =
    let got = shown_method image id.0 class def shown in
    ap (λ xs. has_number d (numbers xs)) same
    ∙ (ap (has_number d) listed
    ∙ (has_once d (interfaces_above image class.0)
    ∙ (ap (λ (c : ClassId). has_number d (interfaces_above image c.0)) (sym got.1.2)
    ∙ (sym (or_none (has_number d (interfaces_above image got.0.info.class.0)))
    ∙ ap (λ (o : Option Method). above_any image (cons_option o []) d) (sym got.1.0)))))

pub more_above : (image : Image) (first : MethodId) (ids : List MethodId) (i : ℕ) (id : MethodId) (d : ℕ) → i < length ids → id ≡ get_or ids i id
    → above_any image (methods_at image (first ∷ take (i + 1) ids)) d
    ≡ (above_any image (methods_at image (first ∷ take i ids)) d || above_any image (methods_at image (id ∷ [])) d)
more_above image first ids i id d within is =
    let more : first ∷ take (i + 1) ids ≡ (first ∷ take i ids) ++ id ∷ [] = ap (λ xs. first ∷ xs) (take_more ids i id within ∙ ap (λ x. take i ids ++ x ∷ []) (sym is)) in
    ap (λ xs. above_any image (methods_at image xs) d) more
    ∙ (ap (λ ms. above_any image ms d) (filter_map-append (λ (x : MethodId). method_at image x.0) (first ∷ take i ids) (id ∷ []))
    ∙ list_any-append (λ (n : Method). has_number d (interfaces_above image n.info.class.0)) (methods_at image (first ∷ take i ids)) (methods_at image (id ∷ [])))

-- marks that are written twice
pub marked_twice : (now before old mark a b whole : Bool) → now ≡ cond b mark before → before ≡ cond a mark old → whole ≡ (a || b) → now ≡ cond whole mark old
marked_twice now before old mark true true whole last first all = last ∙ sym (ap (λ c. cond c mark old) all)
marked_twice now before old mark true false whole last first all = last ∙ (first ∙ sym (ap (λ c. cond c mark old) all))
marked_twice now before old mark false true whole last first all = last ∙ sym (ap (λ c. cond c mark old) all)
marked_twice now before old mark false false whole last first all = last ∙ (first ∙ sym (ap (λ c. cond c mark old) all))

-- marks that are taken away again
pub unmarked_again : (now before old a : Bool) → now ≡ cond a false before → before ≡ cond a true old → old ≡ false → now ≡ false
unmarked_again now before old true last first none = last
unmarked_again now before old false last first none = last ∙ (first ∙ none)

pub all_above : (image : Image) (first : MethodId) (ids : List MethodId) (i d : ℕ) (now old mark : Bool) → length ids ≤ i
    → now ≡ cond (above_any image (methods_at image (first ∷ take i ids)) d) mark old → now ≡ cond (above_any image (methods_at image (first ∷ ids)) d) mark old
all_above image first ids i d now old mark over so_far =
    so_far ∙ ap (λ xs. cond (above_any image (methods_at image (first ∷ xs)) d) mark old) (take_all i ids over)

-- ---- one after another

abbrev taken : Select → List Method → Select
taken s [] = s
taken s (m ∷ ms) = taken (joined s (record { 0 = m.id })) ms

abbrev specific : List Bool → List Method → List Method
specific marks ms = filter (λ m. not (is_abstract m)) (filter (is_unmarked marks) ms)

abbrev also_by : List Bool → Select → MethodId → Option Method → Select
also_by marks s id o = elim o as (λ _. Select) [ None ↦ s | Some m ↦ if get_or marks m.info.class.0 false || is_abstract m then s else joined s id ]

also_taken : (image : Image) (marks : List Bool) (ids : List MethodId) (s : Select) → also_all image marks s ids ≡ taken s (specific marks (methods_at image ids))
also_taken image marks [] s = refl
also_taken image marks (id ∷ ids) s = by (method_at image id.0) (number_is image id.0) (also_taken image marks ids)
  where
    with : (m : Method) (a b : Bool) → record { 0 = m.id } ≡ id → ((t : Select) → also_all image marks t ids ≡ taken t (specific marks (methods_at image ids)))
        → also_all image marks (cond (a || b) s (joined s id)) ids
        ≡ taken s (cond (not a) (cond (not b) (m ∷ specific marks (methods_at image ids)) (specific marks (methods_at image ids))) (specific marks (methods_at image ids)))
    with m true b same rest = rest s
    with m false true same rest = rest s
    with m false false same rest = rest (joined s id) ∙ ap (λ x. taken (joined s x) (specific marks (methods_at image ids))) (sym same)

    pushed : (m : Method) (a : Bool)
        → filter (λ n. not (is_abstract n)) (cond (not a) (m ∷ filter (is_unmarked marks) (methods_at image ids)) (filter (is_unmarked marks) (methods_at image ids)))
        ≡ cond (not a) (cond (not (is_abstract m)) (m ∷ specific marks (methods_at image ids)) (specific marks (methods_at image ids))) (specific marks (methods_at image ids))
    pushed m true = refl
    pushed m false = refl

    by : (o : Option Method) → ((m : Method) → o ≡ Some m → m.id ≡ id.0)
        → ((t : Select) → also_all image marks t ids ≡ taken t (specific marks (methods_at image ids)))
        → also_all image marks (also_by marks s id o) ids ≡ taken s (specific marks (cons_option o (methods_at image ids)))
    by None number rest = rest s
    by (Some m) number rest =
        with m (get_or marks m.info.class.0 false) (is_abstract m) (λ j. record { 0 = number m refl j }) rest
        ∙ ap (taken s) (sym (pushed m (get_or marks m.info.class.0 false)))

clash_stays : (ms : List Method) → taken select.Clash ms ≡ select.Clash
clash_stays [] = refl
clash_stays (m ∷ ms) = clash_stays ms

taken_only : (ms : List Method) → taken select.Abstract ms ≡ only ms
taken_only [] = refl
taken_only (m ∷ []) = refl
taken_only (m ∷ n ∷ ms) = clash_stays ms

-- the only one, where each is looked at once
pub also_only : (image : Image) (marks : List Bool) (ids : List MethodId) → also_all image marks select.Abstract ids ≡ only (specific marks (methods_at image ids))
also_only image marks ids = also_taken image marks ids select.Abstract ∙ taken_only (specific marks (methods_at image ids))

pub also_end : (image : Image) (marks : List Bool) (s whole : Select) (ids : List MethodId) (i : ℕ) → length ids ≤ i → also_all image marks s (drop i ids) ≡ whole → s ≡ whole
also_end image marks s whole ids i over so_far = sym (ap (also_all image marks s) (drop_all i ids over)) ∙ so_far

-- ---- the choice

-- where just the interfaces above them are marked
pub chosen_by : (image : Image) (ms : List Method) (marks : List Bool) (s : Select) → ((d : ℕ) → get_or marks d false ≡ cond (above_any image ms d) true false)
    → s ≡ only (specific marks ms) → s ≡ chosen image ms
chosen_by image ms marks s marked taken =
    taken ∙ ap (λ ns. only (filter (λ m. not (is_abstract m)) ns)) (filter_agree (is_unmarked marks) (λ m. not (is_overridden image ms m)) (λ m. ap not (marked m.info.class.0 ∙ itself_bool (above_any image ms m.info.class.0))) ms)
  where
    itself_bool : (b : Bool) → cond b true false ≡ b
    itself_bool true = refl
    itself_bool false = refl

-- a method that stands alone
pub alone_chosen : (image : Image) → IsOrdered image → (id : MethodId) → itself_at image id ≡ chosen image (methods_at image (id ∷ []))
alone_chosen image ordered id = by (method_at image id.0)
  where
    lone : (m : Method) (b : Bool) → is_abstract m ≡ b → cond b select.Abstract (select.Found (record { 0 = m.id })) ≡ only (cond (not b) (m ∷ []) [])
    lone m true is = refl
    lone m false is = refl

    by : (o : Option Method) → elim o as (λ _. Select) [ None ↦ select.Abstract | Some m ↦ itself m ] ≡ chosen image (cons_option o [])
    by None = refl
    by (Some m) =
        let free : is_overridden image (m ∷ []) m ≡ false = or_none _ ∙ not_above image ordered m.info.class.0 in
        let specific : most_specific image (m ∷ []) ≡ m ∷ [] = ap (λ b. cond (not b) (m ∷ []) []) free in
        lone m (is_abstract m) refl ∙ ap (λ ns. only (filter (λ n. not (is_abstract n)) ns)) (sym specific)

pub no_others : (ids : List MethodId) → true ≡ nat_eq (length ids) 0 → ids ≡ []
no_others [] none = refl
no_others (id ∷ ids) none = absurd (grind (arith, nat_tests))
