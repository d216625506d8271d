-- Slots and places that fit each other, and still do.
use Rattle.std.proofs.Common.{◌≡◌, ℕ, ◌+◌, ◌-◌, ◌<◌, ◌≤◌, false, cond, List, [], ◌∷◌, ◌++◌, length, take, Option, Some, None, slice_get, nat_eq, refl, ap, sym, ◌∙◌, arith, set, inl, inr, IfNone, IfSome, IsSome, MutBor}
use Rattle.std.specs.Option.{option_copied_mut, option_map}
use Rattle.std.proofs.lemmas.Bool.{eq-eqb, ne_eqb, cases_eq, cases_lt, le-ltb, lt-ltb}
use Rattle.std.proofs.lemmas.List.{get_or_append_left, get_or-set_same, get_or-set_other, get_or-take, get_or_past, length-append, length-set, length-take, length-take-le}
use Rattle.std.proofs.lemmas.Option.{get_or_from_slice_get, none-some, same_Some}
use Rattle.std.proofs.Math.Seq.{get_or-append_seam}
use Rattle.dv_machine.specs.Monitors.{entered_in, exited_in, given_up, held_in}
use Rattle.dv_monitor.specs.declared.holding.Holding.{Holding}
use Rattle.dv_monitor.specs.declared.slots.TheConstants.{NEAR}
use Rattle.dv_monitor.specs.Slots.{IsIndexed, held_value, mapped, object_in, present, slot_at}
use Rattle.dv_monitor.proofs.SlotLaws.{StandsNowhere, StandsOnly, entered_in-absent, entered_in-present, exited_in-counted, exited_in-last, given_up-absent, given_up-present, held_in-absent, held_in-present, present-same}

pub within : (slots : List (Option Holding)) (place : ℕ) (h : Holding) → slot_at slots place ≡ Some h → place < length slots
within slots place h at =
    elim (cases_lt place (length slots)) [
      | inl l ↦ l
      | inr past ↦ absurd (none-some h (sym (get_or_past slots place None past) ∙ at))
    ]

pub within-object : (slots : List (Option Holding)) (place object : ℕ) → object_in (slot_at slots place) ≡ Some object → place < length slots
within-object slots place object at =
    elim (cases_lt place (length slots)) [
      | inl l ↦ l
      | inr past ↦ absurd (none-some object (sym (ap object_in (get_or_past slots place None past)) ∙ at))
    ]

-- a monitor stands where its object's place is
standing : (s : Option Holding) (object : ℕ) → object_in s ≡ Some object → (h : Holding) × (s ≡ Some h) × (h.object ≡ object)
standing None object e = absurd (none-some object e)
standing (Some h) object e = (h, refl, same_Some h.object object e)

-- ---- what the map has

pub mapped-near : (place : ℕ) → place < NEAR → mapped place ≡ None
mapped-near place near = rw (lt-ltb place NEAR near)

pub mapped-far : (place : ℕ) → NEAR ≤ place → mapped place ≡ Some place
mapped-far place far = rw (le-ltb place NEAR far)

mapped-is : (to place : ℕ) → mapped to ≡ Some place → (NEAR ≤ to) × (to ≡ place)
mapped-is to place e =
    elim (cases_lt to NEAR) [
      | inl near ↦ absurd (none-some place (sym (mapped-near to near) ∙ e))
      | inr far ↦ (far, same_Some to place (sym (mapped-far to far) ∙ e))
    ]

module _ (slots : List (Option Holding)) (place_of : ℕ → Option ℕ) (fits : IsIndexed slots place_of) where
  pub only-there : (object place : ℕ) → object_in (slot_at slots place) ≡ Some object → StandsOnly slots place object
  only-there object place at = λ other e. fits.once object place other at e

  -- a place in the map is far and has the object
  unmapped-by : (object : ℕ) (o : Option ℕ) → place_of object ≡ o → ((place : ℕ) → NEAR ≤ place → object_in (slot_at slots place) ≡ Some object → ⊥) → o ≡ None
  unmapped-by object None e away = refl
  unmapped-by object (Some place) e away = absurd (away place (fits.far object place e) (fits.stands object place e))

  pub unmapped : (object : ℕ) → ((place : ℕ) → NEAR ≤ place → object_in (slot_at slots place) ≡ Some object → ⊥) → place_of object ≡ None
  unmapped object away = unmapped-by object (place_of object) refl away

  pub mapped-there : (object place : ℕ) → object_in (slot_at slots place) ≡ Some object → place_of object ≡ mapped place
  mapped-there object place at =
      elim (cases_lt place NEAR) [
        | inl near ↦ unmapped object (λ other far e. let same : other ≡ place = fits.once object place other at e in omega arith) ∙ sym (mapped-near place near)
        | inr far ↦ fits.found object place far at ∙ sym (mapped-far place far)
      ]

  pub held-there : (object place : ℕ) (h : Holding) → slot_at slots place ≡ Some h → h.object ≡ object → Some (held_value h) ≡ held_in (present slots) object
  held-there object place h is same =
      sym (held_in-present slots place h is (only-there h.object place (ap object_in is))) ∙ ap (λ o. held_in (present slots) o) same

  -- an object that isn't held stands nowhere
  pub free-nowhere : (object : ℕ) → held_in (present slots) object ≡ None → StandsNowhere slots object
  free-nowhere object free = λ place e.
      let there = standing (slot_at slots place) object e in
      none-some (held_value there.0) (sym free ∙ sym (held-there object place there.0 there.1 there.2))

  pub never-empty : (object place : ℕ) → place_of object ≡ Some place → slot_at slots place ≡ None → ⊥
  never-empty object place at empty = none-some object (sym (ap object_in empty) ∙ fits.stands object place at)

-- an object that stands neither near nor far isn't held
pub none-held : (slots : List (Option Holding)) (object : ℕ) → ((place : ℕ) → place < NEAR → object_in (slot_at slots place) ≡ Some object → ⊥)
    → ((place : ℕ) → NEAR ≤ place → object_in (slot_at slots place) ≡ Some object → ⊥) → None ≡ held_in (present slots) object
none-held slots object near far =
    sym (held_in-absent slots object (λ place e. elim (cases_lt place NEAR) [ inl l ↦ near place l e | inr b ↦ far place b e ]))

-- what is found, where nothing was found near
pub held-found : (slots : List (Option Holding)) (f : ℕ → Option ℕ) (object : ℕ) → IsIndexed slots f → ((place : ℕ) → place < NEAR → object_in (slot_at slots place) ≡ Some object → ⊥)
    → (r : Option (ℕ × Holding)) → IfSome r (λ found. slot_at slots found.0 ≡ Some found.1) → IfSome r (λ found. found.1.object ≡ object)
    → IfNone r ((place : ℕ) → NEAR ≤ place → object_in (slot_at slots place) ≡ Some object → ⊥) → option_map (λ found. held_value found.1) r ≡ held_in (present slots) object
held-found slots f object fits near None is same far = none-held slots object near far
held-found slots f object fits near (Some found) is same far = held-there slots f fits object found.0 found.1 is same

-- slots with the same objects fit the same places
pub indexed-same : (old new : List (Option Holding)) (f : ℕ → Option ℕ) → IsIndexed old f → ((place : ℕ) → object_in (slot_at new place) ≡ object_in (slot_at old place)) → IsIndexed new f
indexed-same old new f fits same = record {
  far = fits.far;
  stands = λ object place e. same place ∙ fits.stands object place e;
  found = λ object place far e. fits.found object place far (sym (same place) ∙ e);
  once = λ object place other a b. fits.once object place other (sym (same place) ∙ a) (sym (same other) ∙ b);
}

-- a monitor put into an empty slot, or behind the last one
pub record IsPut (old new : List (Option Holding)) (f g : ℕ → Option ℕ) (to : ℕ) (h : Holding) : Type 0 where
  pub was_empty : slot_at old to ≡ None
  pub was_nowhere : StandsNowhere old h.object
  pub stands : slot_at new to ≡ Some h
  pub others : (place : ℕ) → (place ≡ to → ⊥) → slot_at new place ≡ slot_at old place
  pub place : g h.object ≡ mapped to
  pub other_places : (object : ℕ) → nat_eq h.object object ≡ false → g object ≡ f object

module _ (old new : List (Option Holding)) (f g : ℕ → Option ℕ) (to : ℕ) (h : Holding) (fits : IsIndexed old f) (put : IsPut old new f g to h) where
  -- what stands in the slot now
  put-object : (object place : ℕ) → place ≡ to → object_in (slot_at new place) ≡ Some object → h.object ≡ object
  put-object object place there e = same_Some h.object object (sym (ap (λ k. object_in (slot_at new k)) there ∙ ap object_in put.stands) ∙ e)

  put-before : (object place : ℕ) → (place ≡ to → ⊥) → object_in (slot_at new place) ≡ Some object → object_in (slot_at old place) ≡ Some object
  put-before object place away e = sym (ap object_in (put.others place away)) ∙ e

  put-same : (object place : ℕ) → h.object ≡ object → g object ≡ Some place → (NEAR ≤ to) × (to ≡ place)
  put-same object place same e = mapped-is to place (sym put.place ∙ ap g same ∙ e)

  put-other : (object place : ℕ) → (h.object ≡ object → ⊥) → g object ≡ Some place → f object ≡ Some place
  put-other object place other e = sym (put.other_places object (ne_eqb h.object object other)) ∙ e

  -- no object of an old slot is this one
  put-apart : (object place : ℕ) → object_in (slot_at old place) ≡ Some object → h.object ≡ object → ⊥
  put-apart object place was same = put.was_nowhere place (was ∙ ap (λ n. Some n) (sym same))

  put-far : (object place : ℕ) → g object ≡ Some place → NEAR ≤ place
  put-far object place e =
      elim (cases_eq h.object object) [
        | inl same ↦ let at = put-same object place same e in omega arith
        | inr other ↦ fits.far object place (put-other object place other e)
      ]

  put-stands : (object place : ℕ) → g object ≡ Some place → object_in (slot_at new place) ≡ Some object
  put-stands object place e =
      elim (cases_eq h.object object) [
        | inl same ↦ ap (λ k. object_in (slot_at new k)) (sym (put-same object place same e).1) ∙ ap object_in put.stands ∙ ap (λ n. Some n) same
        | inr other ↦
            let was : object_in (slot_at old place) ≡ Some object = fits.stands object place (put-other object place other e) in
            ap object_in (put.others place (λ s. none-some object (sym (ap (λ k. object_in (slot_at old k)) s ∙ ap object_in put.was_empty) ∙ was))) ∙ was
      ]

  put-found : (object place : ℕ) → NEAR ≤ place → object_in (slot_at new place) ≡ Some object → g object ≡ Some place
  put-found object place far e =
      elim (cases_eq place to) [
        | inl there ↦
            let end : NEAR ≤ to = omega arith in
            ap g (sym (put-object object place there e)) ∙ put.place ∙ mapped-far to end ∙ ap (λ n. Some n) (sym there)
        | inr away ↦
            let was : object_in (slot_at old place) ≡ Some object = put-before object place away e in
            put.other_places object (ne_eqb h.object object (put-apart object place was)) ∙ fits.found object place far was
      ]

  put-once : (object place other : ℕ) → object_in (slot_at new place) ≡ Some object → object_in (slot_at new other) ≡ Some object → other ≡ place
  put-once object place other a b =
      elim (cases_eq place to) [
        | inl here ↦ elim (cases_eq other to) [
          | inl there ↦ there ∙ sym here
          | inr away ↦ absurd (put-apart object other (put-before object other away b) (put-object object place here a))
        ]
        | inr off ↦ elim (cases_eq other to) [
          | inl there ↦ absurd (put-apart object place (put-before object place off a) (put-object object other there b))
          | inr away ↦ fits.once object place other (put-before object place off a) (put-before object other away b)
        ]
      ]

  pub indexed-put : IsIndexed new g
  indexed-put = record { far = put-far; stands = put-stands; found = put-found; once = put-once }

-- a monitor taken out of its slot
pub record IsTaken (old new : List (Option Holding)) (f g : ℕ → Option ℕ) (from object : ℕ) : Type 0 where
  pub was_there : object_in (slot_at old from) ≡ Some object
  pub empty : slot_at new from ≡ None
  pub others : (place : ℕ) → (place ≡ from → ⊥) → slot_at new place ≡ slot_at old place
  pub nowhere : g object ≡ None
  pub other_places : (other : ℕ) → nat_eq object other ≡ false → g other ≡ f other

module _ (old new : List (Option Holding)) (f g : ℕ → Option ℕ) (from object : ℕ) (fits : IsIndexed old f) (took : IsTaken old new f g from object) where
  taken-away : (other place : ℕ) → object_in (slot_at new place) ≡ Some other → place ≡ from → ⊥
  taken-away other place e there = none-some other (sym (ap (λ k. object_in (slot_at new k)) there ∙ ap object_in took.empty) ∙ e)

  taken-before : (other place : ℕ) → object_in (slot_at new place) ≡ Some other → object_in (slot_at old place) ≡ Some other
  taken-before other place e = sym (ap object_in (took.others place (taken-away other place e))) ∙ e

  -- the object stands in no slot any more
  pub taken-nowhere : StandsNowhere new object
  taken-nowhere = λ place e. taken-away object place e (fits.once object from place took.was_there (taken-before object place e))

  taken-place : (other place : ℕ) → g other ≡ Some place → (f other ≡ Some place) × (object ≡ other → ⊥)
  taken-place other place e =
      let apart : object ≡ other → ⊥ = λ same. none-some place (sym (sym (ap g same) ∙ took.nowhere) ∙ e) in
      (sym (took.other_places other (ne_eqb object other apart)) ∙ e, apart)

  taken-stands : (other place : ℕ) → g other ≡ Some place → object_in (slot_at new place) ≡ Some other
  taken-stands other place e =
      let at = taken-place other place e in
      let was : object_in (slot_at old place) ≡ Some other = fits.stands other place at.0 in
      ap object_in (took.others place (λ s. at.1 (same_Some object other (sym took.was_there ∙ sym (ap (λ k. object_in (slot_at old k)) s) ∙ was)))) ∙ was

  taken-found : (other place : ℕ) → NEAR ≤ place → object_in (slot_at new place) ≡ Some other → g other ≡ Some place
  taken-found other place far e =
      let apart : object ≡ other → ⊥ = λ same. taken-nowhere place (e ∙ ap (λ n. Some n) (sym same)) in
      took.other_places other (ne_eqb object other apart) ∙ fits.found other place far (taken-before other place e)

  pub indexed-taken : IsIndexed new g
  indexed-taken = record {
    far = λ other place e. fits.far other place (taken-place other place e).0;
    stands = taken-stands;
    found = taken-found;
    once = λ other place more a b. fits.once other place more (taken-before other place a) (taken-before other more b);
  }

-- the last slot is empty, and taken off
pub slot_at-front : (slots : List (Option Holding)) → slot_at slots (length slots - 1) ≡ None → (place : ℕ) → slot_at (take (length slots - 1) slots) place ≡ slot_at slots place
slot_at-front slots empty place =
    elim (cases_lt place (length slots - 1)) [
      | inl l ↦ get_or-take (length slots - 1) slots place None l
      | inr past ↦ get_or_past (take (length slots - 1) slots) place None (omega (arith, length-take-le (length slots - 1) slots (omega arith))) ∙ sym (past-last slots place past empty)
    ]
  where
    past-last : (slots : List (Option Holding)) (place : ℕ) → length slots - 1 ≤ place → slot_at slots (length slots - 1) ≡ None → slot_at slots place ≡ None
    past-last slots place past empty =
        elim (cases_eq place (length slots - 1)) [
          | inl e ↦ ap (λ k. slot_at slots k) e ∙ empty
          | inr ne ↦ get_or_past slots place None (omega arith)
        ]

pub slot_at-popped : (slots read new : List (Option Holding)) (n : ℕ) (s : Option Holding) → read ≡ slots → length read ≡ n → Some s ≡ slice_get read (length read - 1) → s ≡ None
    → new ≡ take (n - 1) slots → (place : ℕ) → slot_at new place ≡ slot_at slots place
slot_at-popped slots read new n s same len last empty taken place =
    let e : slot_at read (length read - 1) ≡ None = get_or_from_slice_get read (length read - 1) s None (sym last) ∙ empty in
    rw (taken, ← len, ← same) (slot_at-front read e place)

-- a monitor that is moved down over empty slots is taken out and put back
pub indexed-moved : (slots : List (Option Holding)) (f g : ℕ → Option ℕ) (to from : ℕ) (h : Holding) → IsIndexed slots f → slot_at slots from ≡ Some h → to ≤ from
    → ((place : ℕ) → to ≤ place → place < from → slot_at slots place ≡ None) → g h.object ≡ mapped to → ((object : ℕ) → nat_eq h.object object ≡ false → g object ≡ f object)
    → IsIndexed (set (set slots from None) to (Some h)) g
indexed-moved slots f g to from h fits at down empty there others =
    let inside : from < length slots = within slots from h at in
    let still : to < length (set slots from None) = omega (arith, length-set slots from None) in
    let bare : ℕ → Option ℕ = λ object. cond (nat_eq h.object object) None (f object) in
    let took : IsTaken slots (set slots from None) f bare from h.object = record {
      was_there = ap object_in at;
      empty = get_or-set_same slots from None None inside;
      others = λ place away. get_or-set_other slots from place None None away;
      nowhere = rw (eq-eqb h.object h.object refl);
      other_places = λ other apart. rw apart;
    } in
    indexed-put (set slots from None) (set (set slots from None) to (Some h)) bare g to h (indexed-taken slots (set slots from None) f bare from h.object fits took) (record {
      was_empty = emptied slots to from h at down empty inside;
      was_nowhere = taken-nowhere slots (set slots from None) f bare from h.object fits took;
      stands = get_or-set_same (set slots from None) to (Some h) None still;
      others = λ place away. get_or-set_other (set slots from None) to place (Some h) None away;
      place = there;
      other_places = λ object apart. rw apart (others object apart);
    })
  where
    emptied : (slots : List (Option Holding)) (to from : ℕ) (h : Holding) → slot_at slots from ≡ Some h → to ≤ from
        → ((place : ℕ) → to ≤ place → place < from → slot_at slots place ≡ None) → from < length slots → slot_at (set slots from None) to ≡ None
    emptied slots to from h at down empty inside =
        elim (cases_eq to from) [
          | inl same ↦ ap (λ k. slot_at (set slots from None) k) same ∙ get_or-set_same slots from None None inside
          | inr apart ↦ get_or-set_other slots from to None None apart ∙ empty to (omega arith) (omega arith)
        ]

-- and all between stays empty
pub emptied-after : (slots : List (Option Holding)) (to from : ℕ) (h : Holding) → slot_at slots from ≡ Some h
    → ((place : ℕ) → to ≤ place → place < from → slot_at slots place ≡ None) → (place : ℕ) → to + 1 ≤ place → place < from + 1 → slot_at (set (set slots from None) to (Some h)) place ≡ None
emptied-after slots to from h at empty place above below =
    get_or-set_other (set slots from None) to place (Some h) None (λ e. omega arith)
    ∙ elim (cases_eq place from) [
      | inl same ↦ ap (λ k. slot_at (set slots from None) k) same ∙ get_or-set_same slots from None None (within slots from h at)
      | inr apart ↦ get_or-set_other slots from place None None apart ∙ empty place (omega arith) (omega arith)
    ]

pub some-read : (r : Option (MutBor ℕ)) (o : Option ℕ) (x : ℕ) → option_copied_mut r ≡ o → o ≡ Some x → IsSome r
some-read None o x read is = absurd (none-some x (read ∙ is))
some-read (Some b) o x read is = refl

-- all from there on is empty, and cut off
pub slot_at-cut : (slots : List (Option Holding)) (n : ℕ) → ((place : ℕ) → n ≤ place → place < length slots → slot_at slots place ≡ None)
    → (place : ℕ) → slot_at (take n slots) place ≡ slot_at slots place
slot_at-cut slots n empty place =
    elim (cases_lt place n) [
      | inl l ↦ get_or-take n slots place None l
      | inr past ↦ get_or_past (take n slots) place None (omega (arith, length-take n slots)) ∙ sym (none-past slots n place empty past)
    ]
  where
    none-past : (slots : List (Option Holding)) (n place : ℕ) → ((place : ℕ) → n ≤ place → place < length slots → slot_at slots place ≡ None) → n ≤ place → slot_at slots place ≡ None
    none-past slots n place empty past =
        elim (cases_lt place (length slots)) [
          | inl l ↦ empty place past l
          | inr beyond ↦ get_or_past slots place None beyond
        ]

-- ---- the steps on held monitors

-- an object that isn't held isn't in the map
pub free-unmapped : (slots : List (Option Holding)) (f : ℕ → Option ℕ) (object : ℕ) → IsIndexed slots f → held_in (present slots) object ≡ None → f object ≡ None
free-unmapped slots f object fits free = unmapped slots f fits object (λ place far e. free-nowhere slots f fits object free place e)

pub indexed-added : (slots : List (Option Holding)) (f g : ℕ → Option ℕ) (h : Holding) → IsIndexed slots f → held_in (present slots) h.object ≡ None → g h.object ≡ mapped (length slots)
    → ((object : ℕ) → nat_eq h.object object ≡ false → g object ≡ f object) → IsIndexed (slots ++ Some h ∷ []) g
indexed-added slots f g h fits free there others =
    indexed-put slots (slots ++ Some h ∷ []) f g (length slots) h fits (record {
      was_empty = get_or_past slots (length slots) None (omega arith);
      was_nowhere = free-nowhere slots f fits h.object free;
      stands = get_or-append_seam slots (Some h) [] None;
      others = elsewhere slots h;
      place = there;
      other_places = others;
    })
  where
    elsewhere : (slots : List (Option Holding)) (h : Holding) (place : ℕ) → (place ≡ length slots → ⊥) → slot_at (slots ++ Some h ∷ []) place ≡ slot_at slots place
    elsewhere slots h place away =
        elim (cases_lt place (length slots)) [
          | inl l ↦ get_or_append_left slots (Some h ∷ []) None place l
          | inr past ↦ get_or_past (slots ++ Some h ∷ []) place None (omega (arith, length-append slots (Some h ∷ []))) ∙ sym (get_or_past slots place None past)
        ]

pub present-added : (slots : List (Option Holding)) (f : ℕ → Option ℕ) (object thread count : ℕ) → IsIndexed slots f → held_in (present slots) object ≡ None
    → present (slots ++ Some (record { object = object; thread = thread; count = count }) ∷ []) ≡ entered_in (present slots) object thread count
present-added slots f object thread count fits free =
    sym (entered_in-absent slots object thread count (free-nowhere slots f fits object free))

pub indexed-recounted : (slots : List (Option Holding)) (f : ℕ → Option ℕ) (place : ℕ) (h g : Holding) → IsIndexed slots f → slot_at slots place ≡ Some h → g.object ≡ h.object
    → IsIndexed (set slots place (Some g)) f
indexed-recounted slots f place h g fits at same =
    indexed-same slots (set slots place (Some g)) f fits (λ k.
    elim (cases_eq k place) [
      | inl there ↦
          ap (λ j. object_in (slot_at (set slots place (Some g)) j)) there ∙ ap object_in (get_or-set_same slots place (Some g) None (within slots place h at))
          ∙ ap (λ n. Some n) same ∙ sym (ap object_in at) ∙ sym (ap (λ j. object_in (slot_at slots j)) there)
      | inr away ↦ ap object_in (get_or-set_other slots place k (Some g) None away)
    ])

module _ (slots : List (Option Holding)) (f : ℕ → Option ℕ) (fits : IsIndexed slots f) (object place : ℕ) (h : Holding) (at : slot_at slots place ≡ Some h) (same : h.object ≡ object) where
  alone : StandsOnly slots place h.object
  alone = only-there slots f fits h.object place (ap object_in at)

  pub present-entered : (thread count : ℕ) → present (set slots place (Some (record { object = h.object; thread = thread; count = h.count + count }))) ≡ entered_in (present slots) object thread count
  present-entered thread count = sym (entered_in-present slots place h thread count at alone) ∙ ap (λ o. entered_in (present slots) o thread count) same

  pub present-given_up : present (set slots place None) ≡ given_up (present slots) object
  present-given_up = sym (given_up-present slots place h at alone) ∙ ap (λ o. given_up (present slots) o) same

  pub present-counted : 1 < h.count → present (set slots place (Some (record { object = h.object; thread = h.thread; count = h.count - 1 }))) ≡ exited_in (present slots) object
  present-counted more = sym (exited_in-counted slots place h at alone more) ∙ ap (λ o. exited_in (present slots) o) same

  pub exited-last : h.count ≤ 1 → given_up (present slots) object ≡ exited_in (present slots) object
  exited-last last = ap (λ o. given_up (present slots) o) (sym same) ∙ sym (exited_in-last slots place h at alone last) ∙ ap (λ o. exited_in (present slots) o) same

-- a slot is emptied; what is left has the same slots, but for empty ones at the end
module _ (slots new : List (Option Holding)) (f g : ℕ → Option ℕ) (object place : ℕ) (fits : IsIndexed slots f) (there : object_in (slot_at slots place) ≡ Some object)
    (left : (k : ℕ) → slot_at new k ≡ slot_at (set slots place None) k) where
  pub indexed-taken_out : g object ≡ None → ((other : ℕ) → nat_eq object other ≡ false → g other ≡ f other) → IsIndexed new g
  indexed-taken_out gone others =
      indexed-taken slots new f g place object fits (record {
        was_there = there;
        empty = left place ∙ get_or-set_same slots place None None (within-object slots place object there);
        others = λ k away. left k ∙ get_or-set_other slots place k None None away;
        nowhere = gone;
        other_places = others;
      })

  pub present-taken_out : present new ≡ given_up (present slots) object
  present-taken_out =
      let at = standing (slot_at slots place) object there in
      present-same new (set slots place None) left ∙ present-given_up slots f fits object place at.0 at.1 at.2

pub given_up-free : (slots : List (Option Holding)) (f : ℕ → Option ℕ) (object : ℕ) → IsIndexed slots f → held_in (present slots) object ≡ None → present slots ≡ given_up (present slots) object
given_up-free slots f object fits free = sym (given_up-absent slots object (free-nowhere slots f fits object free))
