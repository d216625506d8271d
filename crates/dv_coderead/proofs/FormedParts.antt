-- What holds of the parts of an instruction's operands, as they are read.
use Rattle.std.proofs.Common.{◌≡◌, ℕ, zero, suc, ◌+◌, ◌-◌, ◌^◌, ◌<◌, ◌≤◌, ◌==◌, ◌&&◌, min, Bool, true, false, ℤ, pos, List, [], ◌∷◌, length, Option, Some, None, is_some, IfSome, Result, Ok, Err, IfOk, IsTrue, inl, inr, refl, sym, subst, arith}
use Rattle.std.specs.Prelude.{int_rem, nat_le, nat_lt, if◌then◌else◌}
use Rattle.std.specs.Ordering.{int_eq}
use Rattle.std.proofs.lemmas.Bool.{and_parts, cond_both, eqb-true, eqb-false, leb-true, lt-ltb, ltb-false, ltb-true, or_cases, or_left}
use Rattle.std.proofs.lemmas.Bool.Decides.{Decides-int_eq}
use Rattle.std.proofs.lemmas.Nat.{pow_pos}
use Rattle.dv_defs.specs.declared.code.PoolKind.{PoolKind}
use Rattle.dv_defs.specs.declared.code.PoolKind.TheVariants as pool_kind
use Rattle.dv_defs.specs.declared.code.Regs.{Regs}
use Rattle.dv_defs.specs.declared.faults.LineKind.{LineKind}
use Rattle.dv_defs.specs.Spelling.{few, fits_signed}
use Rattle.dv_lex.specs.Numbers.{Number, in_bits, is_whole, magnitude, negated}
use Rattle.dv_draft.specs.declared.draft.PoolRef.{PoolRef}
use Rattle.dv_draft.specs.declared.draft.PoolRef.TheVariants as pool
use Rattle.dv_draft.specs.Draft.{has_no_further, kind_of_entry}
use Rattle.dv_coderead.specs.Giving.{◌>>=◌}
use Rattle.dv_coderead.specs.Pieces.{Piece, AWord, AString}
use Rattle.dv_coderead.specs.declared.words.Frame.{Frame}
use Rattle.dv_coderead.specs.Words.{fitting, label_in, literal_in, number_in, number_of}
use Rattle.dv_coderead.specs.References.{field_in, method_in, type_in}
use Rattle.dv_coderead.specs.Operands.{Part, and_behind, as_entry, braces_at, comma_at, dots_at, each_at, entry_at, entry_in, entry_of, few_at, is_closed, label_at, last_at, list_at, literal_at, mark_at, more_at, neighbours_at, next_at, next_register_at, one_at, range_of, register_at, registers_at, some_label, three_at, two_at, value_in, with_register, word_at}
use Rattle.dv_coderead.specs.declared.shape.Registers.{Registers}
use Rattle.dv_coderead.specs.declared.shape.Registers.TheVariants as registers
use Rattle.dv_coderead.specs.declared.shape.Literal.{Literal}

-- ---- one reading after another

module _ {X Y : Type 0} (P : Y → Type 0) where
  -- a reading that goes by another is such, if it is wherever that one gives what it may
  pub after_such : (Q : X → Type 0) (read : Result X LineKind) (next : X → Result Y LineKind)
      → IfOk read Q → ((x : X) → Q x → IfOk (next x) P) → IfOk (read >>= next) P
  after_such Q (Ok x) next is holds = holds x is
  after_such Q (Err k) next is holds = tt

  -- ... or whatever that one gives
  pub after : (read : Result X LineKind) (next : X → Result Y LineKind) → ((x : X) → IfOk (next x) P) → IfOk (read >>= next) P
  after (Ok x) next holds = holds x
  after (Err k) next holds = tt

module _ {A : Type 0} (P : A → Type 0) where
  -- one of two readings is such, if both are
  either : (t : Bool) (one other : Result A LineKind) → IfOk one P → IfOk other P → IfOk (if t then one else other) P
  either true one other here there = here
  either false one other here there = there

  -- what stands behind changes nothing of what is read
  with_rest : (ps : List Piece) (read : Result A LineKind) → IfOk read P → IfOk (and_behind ps read) (λ x. P x.0)
  with_rest ps (Ok x) is = is
  with_rest ps (Err k) is = tt

  -- what comes first is such, if each word is
  of_word : (f : List ℕ → Result A LineKind) → ((w : List ℕ) → IfOk (f w) P) → (ps : List Piece) → IfOk (word_at f ps) (λ x. P x.0)
  of_word f is (AWord w ∷ ps) = with_rest ps (f w) (is w)
  of_word f is ps = tt

-- ---- registers

-- how many registers a form has: three where it isn't fewer, five at most between braces, and 255 neighbours
abbrev pub Takes : Registers → ℕ → Type 0
Takes (registers.Each n) count = count ≡ min n 3
Takes registers.Braces count = count ≤ 5
Takes registers.Neighbours count = count ≤ 255

abbrev pub is_range : Registers → Bool
is_range (registers.Each n) = false
is_range registers.Braces = false
is_range registers.Neighbours = true

-- registers in a form: as many as it has, a range if it is one, and 0 in the places of those that aren't there
pub record HasForm (form : Registers) (r : Regs) : Type 0 where
  pub number : Takes form r.count
  pub range : r.range ≡ is_range form
  pub others : IsTrue (has_no_further r)

-- what is read are registers in this form
abbrev pub GivesForm : Registers → Part Regs → Type 0
GivesForm form read = IfOk read (λ x. HasForm form x.0)

-- one register is one operand
one_formed : (n : ℕ) → 1 ≡ min n 3 → (frame : Frame) (ps : List Piece) → GivesForm (registers.Each n) (one_at frame ps)
unfolding one_at
one_formed n e frame ps = after _ (register_at frame ps) _ (λ a. record { number = e; range = refl; others = refl })

-- two registers are two operands
two_formed : (n : ℕ) → 2 ≡ min n 3 → (frame : Frame) (ps : List Piece) → GivesForm (registers.Each n) (two_at frame ps)
unfolding two_at
two_formed n e frame ps =
    after _ (register_at frame ps) _ (λ a. after _ (next_register_at frame a.1) _ (λ b. record { number = e; range = refl; others = refl }))

-- three registers are three operands
three_formed : (n : ℕ) → 3 ≡ min n 3 → (frame : Frame) (ps : List Piece) → GivesForm (registers.Each n) (three_at frame ps)
unfolding three_at
three_formed n e frame ps =
    after _ (register_at frame ps) _ (λ a. after _ (next_register_at frame a.1) _ (λ b. after _ (next_register_at frame b.1) _ (λ c.
    record { number = e; range = refl; others = refl })))

-- so many registers are so many operands
each_formed : (n : ℕ) (frame : Frame) (ps : List Piece) → GivesForm (registers.Each n) (each_at n frame ps)
each_formed n frame ps =
    let P : Part Regs → Type 0 = GivesForm (registers.Each n) in
    cond_both (n == 0) _ _ P (λ e. record { number = omega (arith, eqb-true n 0 e); range = refl; others = refl }) (λ no_0.
    cond_both (n == 1) _ _ P (λ e. one_formed n (omega (arith, eqb-true n 1 e)) frame ps) (λ no_1.
    cond_both (n == 2) _ _ P (λ e. two_formed n (omega (arith, eqb-true n 2 e)) frame ps) (λ no_2.
    three_formed n (omega (arith, eqb-false n 0 no_0, eqb-false n 1 no_1, eqb-false n 2 no_2)) frame ps)))

-- five registers at most are those between braces
few_formed : (rs : List ℕ) → length rs ≤ 5 → HasForm registers.Braces (few rs)
few_formed [] le = record { number = le; range = refl; others = refl }
few_formed (a ∷ []) le = record { number = le; range = refl; others = refl }
few_formed (a ∷ b ∷ []) le = record { number = le; range = refl; others = refl }
few_formed (a ∷ b ∷ c ∷ []) le = record { number = le; range = refl; others = refl }
few_formed (a ∷ b ∷ c ∷ d ∷ []) le = record { number = le; range = refl; others = refl }
few_formed (a ∷ b ∷ c ∷ d ∷ e ∷ []) le = record { number = le; range = refl; others = refl }
few_formed (a ∷ b ∷ c ∷ d ∷ e ∷ f ∷ rs) le = absurd (omega arith)

-- what is read are no more registers than this
abbrev IsShort : ℕ → Part (List ℕ) → Type 0
IsShort room read = IfOk read (λ x. length x.0 ≤ room)

-- one register in front takes room for one more
one_more : (r room : ℕ) (read : Part (List ℕ)) → IsShort room read → IsShort (suc room) (with_register r read)
one_more r room (Ok x) le = omega (arith, le)
one_more r room (Err k) le = tt

-- a list has no more registers than there is room for
list_short : (room : ℕ) (frame : Frame) (ps : List Piece) → IsShort room (list_at room frame ps)
unfolding list_at
list_short zero frame ps = tt
list_short (suc room) frame ps =
    let P : List ℕ × List Piece → Type 0 = λ x. length x.0 ≤ suc room in
    after P (register_at frame ps) _ (λ r. after P (more_at r.1) _ (λ more.
    either P more.0 _ _ (one_more r.0 room (list_at room frame more.1) (list_short room frame more.1)) (omega arith)))

-- a short list gives the registers between braces
short_formed : (read : Part (List ℕ)) → IsShort 5 read → GivesForm registers.Braces (few_at read)
short_formed (Ok x) le = few_formed x.0 le
short_formed (Err k) le = tt

-- registers between braces have the form of those
braces_formed : (frame : Frame) (ps : List Piece) → GivesForm registers.Braces (braces_at frame ps)
unfolding braces_at
braces_formed frame ps =
    after _ (mark_at 123 ps) _ (λ inside.
    short_formed _ (either (λ x. length x.0 ≤ 5) (is_closed inside) _ _ (omega arith) (list_short 5 frame inside)))

-- the registers from one to another are neighbours, 1 to 255 of them
range_formed : (first last : ℕ) → IfOk (range_of first last) (HasForm registers.Neighbours)
range_formed first last =
    cond_both (nat_le first last && nat_lt (last - first) 255) _ _ (λ r. IfOk r (HasForm registers.Neighbours)) (λ e.
    let few : last - first < 255 = ltb-true (last - first) 255 (and_parts (nat_le first last) (nat_lt (last - first) 255) e).1 in
    record { number = omega arith; range = refl; others = or_left _ _ (lt-ltb 0 (last - first + 1) (omega arith)) })
    (λ _. tt)

-- the last of neighbours gives all of them
last_formed : (frame : Frame) (first : ℕ) (ps : List Piece) → GivesForm registers.Neighbours (last_at frame first ps)
unfolding last_at
last_formed frame first ps =
    after _ (dots_at ps) _ (λ dots. after _ (register_at frame dots) _ (λ last. after _ (mark_at 125 last.1) _ (λ rest.
    with_rest (HasForm registers.Neighbours) rest (range_of first last.0) (range_formed first last.0))))

-- neighbours between braces have the form of those
neighbours_formed : (frame : Frame) (ps : List Piece) → GivesForm registers.Neighbours (neighbours_at frame ps)
unfolding neighbours_at
neighbours_formed frame ps =
    let P : Regs × List Piece → Type 0 = λ x. HasForm registers.Neighbours x.0 in
    after P (mark_at 123 ps) _ (λ inside.
    either P (is_closed inside) _ _ (record { number = omega arith; range = refl; others = refl }) (after P (register_at frame inside) _ (λ a.
    either P (is_closed a.1) _ _ (record { number = omega arith; range = refl; others = refl }) (last_formed frame a.0 a.1))))

-- registers that are read in a form have that form
pub registers_formed : (form : Registers) (frame : Frame) (ps : List Piece) → GivesForm form (registers_at form frame ps)
registers_formed (registers.Each n) frame ps = each_formed n frame ps
registers_formed registers.Braces frame ps = braces_formed frame ps
registers_formed registers.Neighbours frame ps = neighbours_formed frame ps

-- ---- a literal

-- a number that so many bits hold
abbrev pub Fits : ℕ → ℤ → Type 0
Fits bits z = fits_signed bits z ≡ true

-- a number of at most half of what so many bits tell apart is held as a negative one
negated_fits : (bits m : ℕ) → m ≤ 2 ^ (bits - 1) → Fits bits (negated m)
negated_fits bits zero le = lt-ltb 0 _ (pow_pos (bits - 1))
negated_fits bits (suc m) le = lt-ltb m _ le

-- half of the numbers of 32 or 64 bits are negative
halves : (bits : ℕ) → is_whole bits ≡ true → 2 ^ bits ≡ 2 ^ (bits - 1) + 2 ^ (bits - 1)
halves bits whole =
    let P : ℕ → Type 0 = λ b. 2 ^ b ≡ 2 ^ (b - 1) + 2 ^ (b - 1) in
    elim (or_cases (bits == 32) (bits == 64) whole) [
      | inl e ↦ subst P (sym (eqb-true bits 32 e)) refl
      | inr e ↦ subst P (sym (eqb-true bits 64 e)) refl
    ]

-- the value of a number in so many bits is one that they hold
in_bits_fits : (bits : ℕ) (n : Number) → IfSome (in_bits bits n) (Fits bits)
in_bits_fits bits n =
    let P : Option ℤ → Type 0 = λ o. IfSome o (Fits bits) in
    let m = magnitude n in
    cond_both n.negative _ _ P
    (λ _. cond_both (nat_le m (2 ^ (bits - 1))) _ _ P (λ e. negated_fits bits m (leb-true _ _ e)) (λ _. tt))
    (λ _. cond_both (nat_lt m (2 ^ (bits - 1))) _ _ P (λ e. e) (λ large.
    cond_both (n.hexadecimal && is_whole bits && nat_lt m (2 ^ bits)) _ _ P (λ e.
    let p = and_parts (n.hexadecimal && is_whole bits) (nat_lt m (2 ^ bits)) e in
    let whole = (and_parts n.hexadecimal (is_whole bits) p.0).1 in
    negated_fits bits (2 ^ bits - m) (omega (arith, halves bits whole, ltb-false m (2 ^ (bits - 1)) large))) (λ _. tt)))

fitting_fits : (bits : ℕ) (o : Option ℤ) → IfSome o (Fits bits) → IfOk (fitting o) (Fits bits)
fitting_fits bits None is = tt
fitting_fits bits (Some z) is = is

-- what a word is read as in so many bits is a number that they hold
number_fits : (bits : ℕ) (o : Option Number) → IfOk (number_of bits o) (Fits bits)
number_fits bits None = tt
number_fits bits (Some n) = fitting_fits bits (in_bits bits n) (in_bits_fits bits n)

pub literal_fits : (bits : ℕ) (w : List ℕ) → IfOk (literal_in bits w) (Fits bits)
unfolding literal_in
literal_fits bits w = number_fits bits (number_in w)

-- a literal that its bits hold, whose last bits are 0; or 0 where there is none
abbrev pub IsValue : Option Literal → ℤ → Type 0
IsValue None z = z ≡ pos 0
IsValue (Some l) z = Fits l.bits z × (int_rem z (pos (2 ^ l.zeros)) ≡ pos 0)

-- the value of a word is such a literal
value_formed : (l : Literal) (w : List ℕ) → IfOk (value_in l w) (IsValue (Some l))
value_formed l w =
    after_such (IsValue (Some l)) (Fits l.bits) (literal_in l.bits w) _ (literal_fits l.bits w) (λ z fits.
    cond_both (int_eq (int_rem z (pos (2 ^ l.zeros))) (pos 0)) _ _ (λ r. IfOk r (IsValue (Some l))) (λ e. (fits, (Decides-int_eq _ _).0 e)) (λ _. tt))

-- a literal that is read is such a one
pub literal_formed : (l : Option Literal) (ps : List Piece) → IfOk (literal_at l ps) (λ x. IsValue l x.0)
unfolding literal_at
literal_formed None ps = refl
literal_formed (Some l) ps = after _ (comma_at ps) _ (of_word (IsValue (Some l)) (value_in l) (value_formed l))

-- ---- a label

some_there : (read : Part (List ℕ)) → IfOk (some_label read) (λ x. is_some x.0 ≡ true)
some_there (Ok x) = refl
some_there (Err k) = tt

-- a label is read exactly where there is to be one
pub label_formed : (has first : Bool) (ps : List Piece) → IfOk (label_at has first ps) (λ x. is_some x.0 ≡ has)
unfolding label_at
label_formed true first ps = after _ (next_at first ps) _ (λ rest. some_there (word_at label_in rest))
label_formed false first ps = refl

-- ---- an entry of a pool

-- an entry of this kind
abbrev IsOf : PoolKind → PoolRef → Type 0
IsOf kind e = kind_of_entry e ≡ Some kind

-- what is made an entry of this kind is one
entry_made : {A : Type 0} (f : A → PoolRef) (kind : PoolKind) (read : Result A LineKind) → ((x : A) → IsOf kind (f x)) → IfOk (as_entry f read) (IsOf kind)
entry_made f kind (Ok x) is = is x
entry_made f kind (Err k) is = tt

-- a piece is read as an entry of the kind that is asked for
piece_formed : (kind : PoolKind) (p : Piece) → IfOk (entry_in kind p) (IsOf kind)
piece_formed pool_kind.Strings (AString units) = refl
piece_formed pool_kind.Types (AWord w) = entry_made pool.OfType pool_kind.Types (type_in w) (λ _. refl)
piece_formed pool_kind.Fields (AWord w) = entry_made pool.Field pool_kind.Fields (field_in w) (λ _. refl)
piece_formed pool_kind.Methods (AWord w) = entry_made pool.Method pool_kind.Methods (method_in w) (λ _. refl)
piece_formed kind p = tt

first_formed : (kind : PoolKind) (ps : List Piece) → IfOk (entry_of kind ps) (λ x. IsOf kind x.0)
first_formed kind [] = tt
first_formed kind (p ∷ ps) = with_rest (IsOf kind) ps (entry_in kind p) (piece_formed kind p)

-- an entry of a kind is read exactly where one of that kind is asked for
pub entry_formed : (kind : Option PoolKind) (ps : List Piece) → IfOk (entry_at kind ps) (λ x. kind_of_entry x.0 ≡ kind)
unfolding entry_at
entry_formed None ps = refl
entry_formed (Some kind) ps = after _ (comma_at ps) _ (first_formed kind)
