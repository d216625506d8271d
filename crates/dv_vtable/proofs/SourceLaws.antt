-- What the sources of tables say of methods by number, and of the interfaces above classes.
use Rattle.std.specs.Prelude.{ℕ, zero, suc, Bool, ◌≡◌, ◌<◌, ◌≤◌, false, true, List, [], ◌∷◌, length, flat_map, All, Option, Some, None, nat_lt, option_map, slice_get, slice_index_or}
use Rattle.std.proofs.Common.{refl, ap, sym, subst, ◌∙◌, arith, cond, get_or, ⊎_elim}
use Rattle.std.proofs.lemmas.Bool.Decides.{nat_tests}
use Rattle.std.proofs.lemmas.List.Elements.{All-nil, All-cons}
use Rattle.std.proofs.lemmas.Option.{same_Some, slice_get_read, some_pair_parts}
use Rattle.dv_defs.specs.declared.class.MethodDef.{MethodDef}
use Rattle.dv_defs.specs.declared.flags.Flag.TheVariants as flag
use Rattle.dv_defs.specs.declared.names.ClassId.{ClassId}
use Rattle.dv_defs.specs.declared.names.MethodId.{MethodId}
use Rattle.dv_defs.specs.declared.image.Select.{Select}
use Rattle.dv_defs.specs.declared.image.Select.TheVariants as select
use Rattle.dv_defs.specs.declared.image.ClassInfo.{ClassInfo}
use Rattle.dv_defs.specs.declared.image.MethodInfo.{MethodInfo}
use Rattle.dv_defs.specs.Images.{Image}
use Rattle.dv_defs.specs.Flags.{has_flag}
use Rattle.dv_defs.specs.Pools.{Method, is_abstract, method_at, methods_of, with_def, with_info}
use Rattle.dv_defs.specs.Selecting.{itself}
use Rattle.dv_defs.specs.Linked.{defs}
use Rattle.dv_defs.specs.Numbering.{all_methods_declared}
use Rattle.dv_defs.specs.LookUp.{interfaces_above, interfaces_at, upward}
use Rattle.dv_defs.specs.Order.{has_number, numbers}
use Rattle.law_linking.specs.Ordered.{IsOrdered}
use Rattle.law_linking.specs.Stripped.{AreInRange}
use Rattle.law_linking.proofs.Members.{HasMethods}
use Rattle.law_linking.proofs.OnceNumbers.{has_once}
use Rattle.law_linking.proofs.Reach.{above_in, number_cases, number_first, number_later}
use Rattle.law_linking.proofs.ReachPlaces.{place, place_rises}
use Rattle.law_linking.proofs.Upward.{flat_gives, interface_is_above}
use Rattle.dv_vtable.specs.declared.sources.Sources.{Sources}
use Rattle.dv_vtable.specs.Sources.{AreSources, IsOf, Shown, itself_at, of_method}

-- ---- what is read at a place

pub read_some : {X : Type 0} (xs : List X) (i : ℕ) (x : X) → true ≡ nat_lt i (length xs) → x ≡ get_or xs i x → slice_get xs i ≡ Some x
read_some xs i x within is = slice_get_read xs (length xs) i x refl (grind (arith, nat_tests)) is

-- ---- methods by number

pub has_methods : (p : Sources) → AreSources p → (image : Image) → IsOf p image → HasMethods image
has_methods p are image of = of.methods ∙ (are.methods ∙ ap (λ cs. all_methods_declared 0 (defs cs)) (sym of.classes))

abbrev shown_by : List ClassInfo → Option MethodInfo → Option Shown
shown_by cs None = None
shown_by cs (Some info) = option_map (λ d. (info.class, d)) (slice_get (methods_of (slice_get cs info.class.0)) info.place)

shown_of : (image : Image) (n : ℕ) → option_map of_method (method_at image n) ≡ shown_by image.classes (slice_get image.methods n)
unfolding method_at
shown_of image n = by (slice_get image.methods n)
  where
    with : (info : MethodInfo) (o : Option MethodDef) → option_map of_method (with_def n info o) ≡ option_map (λ d. (info.class, d)) o
    with info None = refl
    with info (Some d) = refl

    by : (o : Option MethodInfo) → option_map of_method (with_info image n o) ≡ shown_by image.classes o
    by None = refl
    by (Some info) = with info (slice_get (methods_of (slice_get image.classes info.class.0)) info.place)

module _ (cs : List ClassInfo) (ms : List MethodInfo) (image : Image) (classes : image.classes ≡ cs) (methods : image.methods ≡ ms) (n : ℕ) where
  shown_is : option_map of_method (method_at image n) ≡ shown_by cs (slice_get ms n)
  shown_is = shown_of image n ∙ λ j. shown_by (classes j) (slice_get (methods j) n)

  pub shown_no_method : slice_get ms n ≡ None → option_map of_method (method_at image n) ≡ None
  shown_no_method none = shown_is ∙ ap (shown_by cs) none

  pub shown_no_class : (info : MethodInfo) → slice_get ms n ≡ Some info → slice_get cs info.class.0 ≡ None → option_map of_method (method_at image n) ≡ None
  shown_no_class info there none =
      shown_is ∙ (ap (shown_by cs) there ∙ ap (λ o. option_map (λ d. (info.class, d)) (slice_get (methods_of o) info.place)) none)

  pub shown_no_def : (info : MethodInfo) (c : ClassInfo) → slice_get ms n ≡ Some info → slice_get cs info.class.0 ≡ Some c → slice_get c.def.methods info.place ≡ None
      → option_map of_method (method_at image n) ≡ None
  shown_no_def info c there class none =
      shown_is ∙ (ap (shown_by cs) there
      ∙ (ap (λ o. option_map (λ d. (info.class, d)) (slice_get (methods_of o) info.place)) class ∙ ap (option_map (λ d. (info.class, d))) none))

  pub shown_def : (info : MethodInfo) (c : ClassInfo) (d : MethodDef) → slice_get ms n ≡ Some info → slice_get cs info.class.0 ≡ Some c → slice_get c.def.methods info.place ≡ Some d
      → option_map of_method (method_at image n) ≡ Some (info.class, d)
  shown_def info c d there class def =
      shown_is ∙ (ap (shown_by cs) there
      ∙ (ap (λ o. option_map (λ d. (info.class, d)) (slice_get (methods_of o) info.place)) class ∙ ap (option_map (λ d. (info.class, d))) def))

-- what is shown is a method of the number
pub shown_method : (image : Image) (n : ℕ) (class : ClassId) (d : MethodDef) → Some (class, d) ≡ option_map of_method (method_at image n)
    → (m : Method) × ((method_at image n ≡ Some m) × (m.id ≡ n) × (m.info.class ≡ class) × (m.def ≡ d))
unfolding method_at
shown_method image n class d shown = by (slice_get image.methods n) refl shown
  where
    with : (info : MethodInfo) (o : Option MethodDef) → Some (class, d) ≡ option_map of_method (with_def n info o)
        → (m : Method) × ((with_def n info o ≡ Some m) × (m.id ≡ n) × (m.info.class ≡ class) × (m.def ≡ d))
    with info None shown = absurd (cc)
    with info (Some e) shown =
        let parts = some_pair_parts class info.class d e shown in
        (record { id = n; info = info; def = e }, (refl, refl, sym parts.0, sym parts.1))

    by : (o : Option MethodInfo) → slice_get image.methods n ≡ o → Some (class, d) ≡ option_map of_method (with_info image n o)
        → (m : Method) × ((with_info image n o ≡ Some m) × (m.id ≡ n) × (m.info.class ≡ class) × (m.def ≡ d))
    by None at shown = absurd (cc)
    by (Some info) at shown = with info (slice_get (methods_of (slice_get image.classes info.class.0)) info.place) shown

pub number_is : (image : Image) (n : ℕ) (m : Method) → method_at image n ≡ Some m → m.id ≡ n
number_is image n m is =
    let got = shown_method image n m.info.class m.def (sym (ap (option_map of_method) is)) in
    ap (λ (x : Method). x.id) (same_Some m got.0 (sym is ∙ got.1.0)) ∙ got.1.1

pub itself_found : (image : Image) (id : MethodId) (class : ClassId) (d : MethodDef) → Some (class, d) ≡ option_map of_method (method_at image id.0)
    → has_flag d.flags flag.Abstract ≡ false → select.Found id ≡ itself_at image id
itself_found image id class d shown concrete =
    let got = shown_method image id.0 class d shown in
    let whole : is_abstract got.0 ≡ false = ap (λ (e : MethodDef). has_flag e.flags flag.Abstract) got.1.3 ∙ concrete in
    let number : id ≡ record { 0 = got.0.id } = λ j. record { 0 = sym got.1.1 j } in
    ap select.Found number
    ∙ (ap (λ b. cond b select.Abstract (select.Found (record { 0 = got.0.id }))) (sym whole)
    ∙ ap (λ (o : Option Method). elim o as (λ _. Select) [ None ↦ select.Abstract | Some m ↦ itself m ]) (sym got.1.0))

-- ---- the interfaces above classes

-- an image of these sources
abbrev pub image_of : Sources → Image
image_of p = record { classes = p.infos.now; methods = p.methods.now; fields = []; boot = 0 }

pub own_image : (p : Sources) → IsOf p (image_of p)
own_image p = record { classes = refl; methods = refl }

upward_in : (image : Image) → AreInRange image.classes → (n c d : ℕ) → c < length image.classes → has_number d (upward (interfaces_at image) n c) ≡ true → d < length image.classes
upward_in image range zero c d within has = absurd (cc)
upward_in image range (suc n) c d within has =
    ⊎_elim
    (λ same. subst (λ e. e < length image.classes) same within)
    (λ later. flat_gives (upward (interfaces_at image) n) d (interfaces_at image c)
    (λ e there more. upward_in image range n e d (above_in image range c e (interface_is_above image c e there)) more) later)
    (number_cases d c (flat_map (upward (interfaces_at image) n) (interfaces_at image c)) has)

-- they are classes of the image
pub above_inside : (image : Image) → AreInRange image.classes → (c d : ℕ) → has_number d (interfaces_above image c) ≡ true → d < length image.classes
above_inside image range c d has =
    flat_gives (upward (interfaces_at image) (length image.classes)) d (interfaces_at image c)
    (λ e there more. upward_in image range (length image.classes) e d (above_in image range c e (interface_is_above image c e there)) more) has

all_inside : (n : ℕ) (cs : List ClassId) → ((d : ℕ) → has_number d (numbers cs) ≡ true → d < n) → All (λ c. c.0 < n) cs
all_inside n [] inside = All-nil (λ c. c.0 < n)
all_inside n (c ∷ cs) inside =
    All-cons (λ d. d.0 < n) c cs (inside c.0 (number_first c.0 (numbers cs))) (all_inside n cs (λ d has. inside d (number_later d c.0 (numbers cs) has)))

pub listed_inside : (p : Sources) → AreSources p → (c : ℕ) → All (λ i. i.0 < length p.infos.now) (slice_index_or p.interfaces.now c [])
listed_inside p are c =
    all_inside (length p.infos.now) (slice_index_or p.interfaces.now c [])
    (λ d has. above_inside (image_of p) are.range c d (sym (has_once d (interfaces_above (image_of p) c)) ∙ (ap (has_number d) (sym (are.interfaces (image_of p) refl c)) ∙ has)))

upward_low : (image : Image) → IsOrdered image → (n c d : ℕ) → has_number d (upward (interfaces_at image) n c) ≡ true → place image d ≤ place image c
upward_low image ordered zero c d has = absurd (cc)
upward_low image ordered (suc n) c d has =
    ⊎_elim
    (λ same. subst (λ e. place image e ≤ place image c) same (omega arith))
    (λ later. flat_gives (upward (interfaces_at image) n) d (interfaces_at image c)
    (λ e there more.
    let less = place_rises image ordered.range ordered.acyclic c e (interface_is_above image c e there) in
    omega (arith, less, upward_low image ordered n e d more)) later)
    (number_cases d c (flat_map (upward (interfaces_at image) n) (interfaces_at image c)) has)

fails : (b : Bool) → (b ≡ true → ⊥) → b ≡ false
fails true h = absurd (h refl)
fails false h = refl

-- none is above itself
pub not_above : (image : Image) → IsOrdered image → (c : ℕ) → has_number c (interfaces_above image c) ≡ false
not_above image ordered c =
    fails (has_number c (interfaces_above image c))
    (λ has. flat_gives (upward (interfaces_at image) (length image.classes)) c (interfaces_at image c)
    (λ e there more.
    let less = place_rises image ordered.range ordered.acyclic c e (interface_is_above image c e there) in
    let low = upward_low image ordered (length image.classes) e c more in
    omega arith) has)
