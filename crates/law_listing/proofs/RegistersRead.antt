-- The registers of an instruction are read from their pieces.
use Rattle.std.proofs.Common.{◌≡◌, ℕ, zero, suc, ◌+◌, ◌-◌, ◌^◌, ◌<◌, ◌≤◌, ◌==◌, ◌&&◌, ◌||◌, Bool, true, false, List, [], ◌∷◌, ◌++◌, map, length, take, drop, replicate, All, Ok, IsTrue, inl, inr, refl, sym, ap, ap₂, ◌∙◌, subst, arith}
use Rattle.std.specs.Prelude.{nat_eq, nat_le, nat_lt, slice_index, codes}
use Rattle.std.specs.List.{flat_map}
use Rattle.std.proofs.lemmas.Bool.{and_from, and_parts, cond-true, eqb-true, le-leb, lt-ltb, ne_eqb, or_cases}
use Rattle.std.proofs.lemmas.List.{append_assoc, get_or-take, length-take}
use Rattle.std.proofs.lemmas.List.Elements.{All-head, All-tail}
use Rattle.dv_defs.specs.declared.code.Regs.{Regs}
use Rattle.dv_defs.specs.Spelling.{all_zero, few, neighbours}
use Rattle.dv_draft.specs.Draft.{has_no_further}
use Rattle.dv_print.specs.declared.formats.Form.{Form}
use Rattle.dv_print.specs.declared.formats.Form.TheVariants as form
use Rattle.dv_print.specs.Operands.{register_text}
use Rattle.dv_coderead.specs.declared.words.Frame.{Frame}
use Rattle.dv_coderead.specs.declared.shape.Registers.{Registers}
use Rattle.dv_coderead.specs.declared.shape.Registers.TheVariants as registers
use Rattle.dv_coderead.specs.Pieces.{Piece, AWord, AMark}
use Rattle.dv_coderead.specs.Operands.{each_at, one_at, two_at, three_at, next_register_at, list_at, with_register, braces_at, few_at, neighbours_at, last_at, range_of, registers_at, is_first, and_behind}
use Rattle.dv_coderead.proofs.FormedParts.{is_range}
use Rattle.law_listing.specs.Listable.{AreRegisters}
use Rattle.law_listing.specs.OperandPieces.{listed_pieces, register_pieces, neighbours_pieces, registers_pieces}
use Rattle.law_listing.proofs.OperandForms.{Counts}
use Rattle.law_listing.proofs.Words.{register_read}

-- a comma in front
abbrev pub comma_before : List Piece → List Piece
comma_before ps = AMark 44 ∷ ps

-- operands behind others, or the first ones
abbrev pub pieces_behind : Bool → List (List Piece) → List Piece
pieces_behind true xs = listed_pieces xs
pieces_behind false xs = flat_map comma_before xs

abbrev pub IsRegister : ℕ → Type 0
IsRegister n = n < 2 ^ 16

-- ---- each as an operand

module _ (frame : Frame) where
  one_read : (a : ℕ) (ps : List Piece) → IsRegister a → one_at frame (AWord (register_text a) ∷ ps) ≡ Ok (few (a ∷ []), ps)
  unfolding one_at
  one_read a ps is = rw (register_read frame a is) refl

  two_read : (a b : ℕ) (ps : List Piece) → IsRegister a → IsRegister b
      → two_at frame (AWord (register_text a) ∷ AMark 44 ∷ AWord (register_text b) ∷ ps) ≡ Ok (few (a ∷ b ∷ []), ps)
  unfolding two_at next_register_at
  two_read a b ps is_a is_b = rw (register_read frame a is_a) (rw (register_read frame b is_b) refl)

  three_read : (a b c : ℕ) (ps : List Piece) → IsRegister a → IsRegister b → IsRegister c
      → three_at frame (AWord (register_text a) ∷ AMark 44 ∷ AWord (register_text b) ∷ AMark 44 ∷ AWord (register_text c) ∷ ps) ≡ Ok (few (a ∷ b ∷ c ∷ []), ps)
  unfolding three_at next_register_at
  three_read a b c ps is_a is_b is_c = rw (register_read frame a is_a) (rw (register_read frame b is_b) (rw (register_read frame c is_c) refl))

  each_read : (n : ℕ) (a b c d e : ℕ) (more : List (List Piece)) → n ≤ 3 → IsRegister a → IsRegister b → IsRegister c
      → each_at n frame (listed_pieces (map register_pieces (take n (a ∷ b ∷ c ∷ d ∷ e ∷ [])) ++ more)) ≡ Ok (few (take n (a ∷ b ∷ c ∷ d ∷ e ∷ [])), pieces_behind (n == 0) more)
  each_read zero a b c d e more le is_a is_b is_c = refl
  each_read (suc zero) a b c d e more le is_a is_b is_c = one_read a (flat_map comma_before more) is_a
  each_read (suc (suc zero)) a b c d e more le is_a is_b is_c = two_read a b (flat_map comma_before more) is_a is_b
  each_read (suc (suc (suc zero))) a b c d e more le is_a is_b is_c = three_read a b c (flat_map comma_before more) is_a is_b is_c
  each_read (suc (suc (suc (suc n)))) a b c d e more le is_a is_b is_c = absurd (omega arith)

  -- ---- in braces

  list_read : (room n : ℕ) (ns : List ℕ) (ps : List Piece) → length ns < room → IsRegister n → All IsRegister ns
      → list_at room frame (AWord (register_text n) ∷ (flat_map comma_before (map register_pieces ns) ++ AMark 125 ∷ ps)) ≡ Ok (n ∷ ns, ps)
  unfolding list_at
  list_read zero n ns ps room is others = absurd (omega arith)
  list_read (suc room) n [] ps le is others = rw (register_read frame n is) refl
  list_read (suc room) n (m ∷ ms) ps le is others =
      rw (register_read frame n is) (ap (with_register n) (list_read room m ms ps (omega arith) (All-head IsRegister m ms others) (All-tail IsRegister m ms others)))

  -- the registers between braces
  inside_read : (ns : List ℕ) (ps : List Piece) → length ns ≤ 5 → All IsRegister ns
      → braces_at frame (AMark 123 ∷ (listed_pieces (map register_pieces ns) ++ AMark 125 ∷ ps)) ≡ Ok (few ns, ps)
  unfolding braces_at
  inside_read [] ps le are = refl
  inside_read (n ∷ ns) ps le are = ap few_at (list_read 5 n ns ps (omega arith) (All-head IsRegister n ns are) (All-tail IsRegister n ns are))

  -- ---- neighbours

  range_again : (first count : ℕ) → 0 < count → count ≤ 255 → range_of first (first + (count - 1)) ≡ Ok (neighbours first count)
  range_again first count some few =
      let last = first + (count - 1) in
      let up : nat_le first last ≡ true = le-leb first last (omega arith) in
      let near : nat_lt (last - first) 255 ≡ true = lt-ltb (last - first) 255 (omega arith) in
      let size : last - first + 1 ≡ count = omega arith in
      cond-true (nat_le first last && nat_lt (last - first) 255) _ _ (and_from _ _ up near) ∙ ap (λ n. Ok (neighbours first n)) size

  last_read : (first last : ℕ) (ps : List Piece) (regs : Regs) → IsRegister last → range_of first last ≡ Ok regs
      → last_at frame first (AWord (codes "..") ∷ AWord (register_text last) ∷ AMark 125 ∷ ps) ≡ Ok (regs, ps)
  unfolding last_at
  last_read first last ps regs is range = rw (register_read frame last is) (ap (and_behind ps) range)

  neighbours_read : (first last : ℕ) (ps : List Piece) (regs : Regs) → IsRegister first → IsRegister last → range_of first last ≡ Ok regs
      → neighbours_at frame (AMark 123 ∷ AWord (register_text first) ∷ AWord (codes "..") ∷ AWord (register_text last) ∷ AMark 125 ∷ ps) ≡ Ok (regs, ps)
  unfolding neighbours_at
  neighbours_read first last ps regs is_first is_last range = rw (register_read frame first is_first) (last_read first last ps regs is_last range)

  none_read : (ps : List Piece) → neighbours_at frame (AMark 123 ∷ AMark 125 ∷ ps) ≡ Ok (neighbours 0 0, ps)
  unfolding neighbours_at
  none_read ps = refl

  range_read : (first count : ℕ) (ps : List Piece) → count ≤ 255 → IsRegister first → first + count ≤ 2 ^ 16 → (nat_lt 0 count || nat_eq first 0) ≡ true
      → neighbours_at frame (neighbours_pieces first count ++ ps) ≡ Ok (neighbours first count, ps)
  range_read first zero ps few is fits zeros =
      elim (or_cases (nat_lt 0 0) (nat_eq first 0) zeros) [
        | inl lt ↦ absurd (cc)
        | inr e ↦ none_read ps ∙ ap (λ n. Ok (neighbours n 0, ps)) (sym (eqb-true first 0 e))
      ]
  range_read first (suc n) ps few is fits zeros =
      let last = first + (suc n - 1) in
      let some : nat_eq (suc n) 0 ≡ false = ne_eqb (suc n) 0 (λ e. absurd (omega arith)) in
      let here = neighbours_read first last ps (neighbours first (suc n)) is (omega arith) (range_again first (suc n) (omega arith) few) in
      rw some here

-- ---- registers as an instruction has them

all_zero_is : (xs : List ℕ) → all_zero xs ≡ true → xs ≡ replicate (length xs) 0
all_zero_is [] e = refl
all_zero_is (x ∷ xs) e = let p = and_parts (nat_eq x 0) (all_zero xs) e in ap₂ (λ y ys. y ∷ ys) (eqb-true x 0 p.0) (all_zero_is xs p.1)

few_by : (xs ys : List ℕ) (n : ℕ) → xs ≡ ys → (let r : Regs = record { count = n; first = xs; range = false } in r) ≡ record { count = n; first = ys; range = false }
few_by xs ys n e = let f : List ℕ → Regs = λ l. record { count = n; first = l; range = false } in ap f e

few_again : (n a b c d e : ℕ) → n ≤ 5 → all_zero (drop n (a ∷ b ∷ c ∷ d ∷ e ∷ [])) ≡ true
    → few (take n (a ∷ b ∷ c ∷ d ∷ e ∷ [])) ≡ record { count = n; first = a ∷ b ∷ c ∷ d ∷ e ∷ []; range = false }
few_again zero a b c d e le z = few_by _ _ 0 (sym (all_zero_is (a ∷ b ∷ c ∷ d ∷ e ∷ []) z))
few_again (suc zero) a b c d e le z = few_by _ _ 1 (ap (λ l. a ∷ l) (sym (all_zero_is (b ∷ c ∷ d ∷ e ∷ []) z)))
few_again (suc (suc zero)) a b c d e le z = few_by _ _ 2 (ap (λ l. a ∷ b ∷ l) (sym (all_zero_is (c ∷ d ∷ e ∷ []) z)))
few_again (suc (suc (suc zero))) a b c d e le z = few_by _ _ 3 (ap (λ l. a ∷ b ∷ c ∷ l) (sym (all_zero_is (d ∷ e ∷ []) z)))
few_again (suc (suc (suc (suc zero)))) a b c d e le z = few_by _ _ 4 (ap (λ l. a ∷ b ∷ c ∷ d ∷ l) (sym (all_zero_is (e ∷ []) z)))
few_again (suc (suc (suc (suc (suc zero))))) a b c d e le z = refl
few_again (suc (suc (suc (suc (suc (suc n)))))) a b c d e le z = absurd (omega arith)

neighbours_again : (n a b c d e : ℕ) → all_zero (b ∷ c ∷ d ∷ e ∷ []) ≡ true → neighbours a n ≡ record { count = n; first = a ∷ b ∷ c ∷ d ∷ e ∷ []; range = true }
neighbours_again n a b c d e z =
    let f : List ℕ → Regs = λ l. record { count = n; first = a ∷ l; range = true } in
    ap f (sym (all_zero_is (b ∷ c ∷ d ∷ e ∷ []) z))

-- which forms are read how
abbrev pub Agrees : Form → Registers → Type 0
Agrees form.Each (registers.Each n) = n ≤ 3
Agrees form.Braces registers.Braces = Unit {0}
Agrees form.Neighbours registers.Neighbours = Unit {0}
Agrees f r = ⊥

-- what five registers are read as
abbrev IsReadAs : Form → Registers → Frame → ℕ → List ℕ → Bool → Type 0
IsReadAs f k frame n first range =
    (more : List (List Piece)) → let r : Regs = record { count = n; first = first; range = range } in
    registers_at k frame (listed_pieces (registers_pieces f r ++ more)) ≡ Ok (r, pieces_behind (is_first k) more)

each_by : (frame : Frame) (m n a b c d e : ℕ) (range : Bool) → m ≤ 3 → n ≡ m → range ≡ false → IsRegister a → IsRegister b → IsRegister c
    → IsTrue (all_zero (drop n (a ∷ b ∷ c ∷ d ∷ e ∷ []))) → IsReadAs form.Each (registers.Each m) frame n (a ∷ b ∷ c ∷ d ∷ e ∷ []) range
each_by frame m n a b c d e range le same single is_a is_b is_c zeros =
    let P : ℕ → Type 0 = λ k. IsReadAs form.Each (registers.Each k) frame n (a ∷ b ∷ c ∷ d ∷ e ∷ []) range in
    let Q : Bool → Type 0 = λ t. IsReadAs form.Each (registers.Each n) frame n (a ∷ b ∷ c ∷ d ∷ e ∷ []) t in
    subst P same (subst Q (sym single) (λ more.
    each_read frame n a b c d e more (omega arith) is_a is_b is_c
    ∙ ap (λ r. Ok (r, pieces_behind (n == 0) more)) (few_again n a b c d e (omega arith) zeros)))

-- so are the first ones
pub all_take : (n : ℕ) (xs : List ℕ) → All IsRegister xs → All IsRegister (take n xs)
all_take n xs are = λ k d lt.
    let small : k < n = omega (arith, length-take n xs) in
    rw (get_or-take n xs k d small) (are k d (omega (arith, length-take n xs)))

braces_by : (frame : Frame) (n a b c d e : ℕ) (range : Bool) → n ≤ 5 → range ≡ false → All IsRegister (a ∷ b ∷ c ∷ d ∷ e ∷ [])
    → IsTrue (all_zero (drop n (a ∷ b ∷ c ∷ d ∷ e ∷ []))) → IsReadAs form.Braces registers.Braces frame n (a ∷ b ∷ c ∷ d ∷ e ∷ []) range
braces_by frame n a b c d e range le single are zeros =
    let five : List ℕ = a ∷ b ∷ c ∷ d ∷ e ∷ [] in
    let Q : Bool → Type 0 = λ t. IsReadAs form.Braces registers.Braces frame n five t in
    let size : length (take n five) ≤ 5 = omega (arith, length-take n five) in
    subst Q (sym single) (λ more.
    ap (λ l. braces_at frame (AMark 123 ∷ l)) (append_assoc (listed_pieces (map register_pieces (take n five))) (AMark 125 ∷ []) (flat_map comma_before more))
    ∙ inside_read frame (take n five) (flat_map comma_before more) size (all_take n five are)
    ∙ ap (λ r. Ok (r, flat_map comma_before more)) (few_again n a b c d e le zeros))

neighbours_by : (frame : Frame) (n a b c d e : ℕ) (range : Bool) → n ≤ 255 → range ≡ true → IsRegister a → a + n ≤ 2 ^ 16
    → IsTrue (all_zero (b ∷ c ∷ d ∷ e ∷ []) && (nat_lt 0 n || nat_eq a 0)) → IsReadAs form.Neighbours registers.Neighbours frame n (a ∷ b ∷ c ∷ d ∷ e ∷ []) range
neighbours_by frame n a b c d e range le whole is fits zeros =
    let Q : Bool → Type 0 = λ t. IsReadAs form.Neighbours registers.Neighbours frame n (a ∷ b ∷ c ∷ d ∷ e ∷ []) t in
    let p = and_parts (all_zero (b ∷ c ∷ d ∷ e ∷ [])) (nat_lt 0 n || nat_eq a 0) zeros in
    subst Q (sym whole) (λ more.
    range_read frame a n (flat_map comma_before more) le is fits p.1 ∙ ap (λ r. Ok (r, flat_map comma_before more)) (neighbours_again n a b c d e p.0))

-- a list of five
five_by : (P : List ℕ → Type 0) → ((a b c d e : ℕ) → P (a ∷ b ∷ c ∷ d ∷ e ∷ [])) → (xs : List ℕ) → length xs ≡ 5 → P xs
five_by P holds [] is = absurd (omega arith)
five_by P holds (a ∷ []) is = absurd (omega arith)
five_by P holds (a ∷ b ∷ []) is = absurd (omega arith)
five_by P holds (a ∷ b ∷ c ∷ []) is = absurd (omega arith)
five_by P holds (a ∷ b ∷ c ∷ d ∷ []) is = absurd (omega arith)
five_by P holds (a ∷ b ∷ c ∷ d ∷ e ∷ []) is = holds a b c d e
five_by P holds (a ∷ b ∷ c ∷ d ∷ e ∷ f ∷ xs) is = absurd (omega arith)

abbrev with_parts : ℕ → List ℕ → Bool → Regs
with_parts n first range = record { count = n; first = first; range = range }

single_zeros : (n : ℕ) (first : List ℕ) (range : Bool) → range ≡ false → IsTrue (has_no_further (with_parts n first range)) → IsTrue (all_zero (drop n first))
single_zeros n first true e zeros = absurd (cc)
single_zeros n first false e zeros = zeros

whole_zeros : (n : ℕ) (first : List ℕ) (range : Bool) → range ≡ true → IsTrue (has_no_further (with_parts n first range))
    → IsTrue (all_zero (drop 1 first) && (nat_lt 0 n || nat_eq (slice_index first 0) 0))
whole_zeros n first true e zeros = zeros
whole_zeros n first false e zeros = absurd (cc)

registers_by : (f : Form) (k : Registers) (frame : Frame) (n : ℕ) (first : List ℕ) (range : Bool) → Agrees f k → AreRegisters (with_parts n first range)
    → IsTrue (has_no_further (with_parts n first range)) → Counts k n → range ≡ is_range k → IsReadAs f k frame n first range
registers_by form.Each (registers.Each m) frame n first range agrees are zeros counts ranged =
    let P : List ℕ → Type 0 = λ l. All IsRegister l → IsTrue (all_zero (drop n l)) → IsReadAs form.Each (registers.Each m) frame n l range in
    five_by P (λ a b c d e. λ small none.
    each_by frame m n a b c d e range agrees counts ranged (small 0 0 (omega arith)) (small 1 0 (omega arith)) (small 2 0 (omega arith)) none)
    first are.places are.small (single_zeros n first range ranged zeros)
registers_by form.Braces registers.Braces frame n first range agrees are zeros counts ranged =
    let P : List ℕ → Type 0 = λ l. All IsRegister l → IsTrue (all_zero (drop n l)) → IsReadAs form.Braces registers.Braces frame n l range in
    five_by P (λ a b c d e. λ small none. braces_by frame n a b c d e range counts ranged small none)
    first are.places are.small (single_zeros n first range ranged zeros)
registers_by form.Neighbours registers.Neighbours frame n first range agrees are zeros counts ranged =
    let P : List ℕ → Type 0 = λ l. All IsRegister l → slice_index l 0 + n ≤ 2 ^ 16 → IsTrue (all_zero (drop 1 l) && (nat_lt 0 n || nat_eq (slice_index l 0) 0))
    → IsReadAs form.Neighbours registers.Neighbours frame n l range in
    five_by P (λ a b c d e. λ small fits none. neighbours_by frame n a b c d e range counts ranged (small 0 0 (omega arith)) fits none)
    first are.places are.small (are.last ranged) (whole_zeros n first range ranged zeros)
registers_by f k frame n first range agrees are zeros counts ranged = absurd agrees

-- registers in the form of a format are read from their pieces
pub registers_read : (f : Form) (k : Registers) (frame : Frame) (r : Regs) (more : List (List Piece)) → Agrees f k → AreRegisters r → IsTrue (has_no_further r)
    → Counts k r.count → r.range ≡ is_range k → registers_at k frame (listed_pieces (registers_pieces f r ++ more)) ≡ Ok (r, pieces_behind (is_first k) more)
registers_read f k frame r more agrees are zeros counts ranged = registers_by f k frame r.count r.first r.range agrees are zeros counts ranged more
