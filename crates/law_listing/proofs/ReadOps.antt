-- The operands of an instruction that are read can be listed.
use Rattle.std.proofs.Common.{◌≡◌, ℕ, zero, suc, length, take, ◌+◌, ◌-◌, ◌^◌, ◌<◌, ◌≤◌, ◌==◌, ◌&&◌, Bool, true, false, ℤ, pos, List, [], ◌∷◌, ◌++◌, Option, Some, None, is_some, IsSome, Result, Ok, Err, IfOk, refl, arith, lit<}
use Rattle.std.specs.Prelude.{find, nat_le, nat_lt}
use Rattle.std.specs.List.{All, list_all}
use Rattle.std.specs.Option.{option_map}
use Rattle.std.proofs.lemmas.Bool.{and_parts, cond_both, eqb-true, leb-true, ltb-true}
use Rattle.std.proofs.lemmas.List.{length-append, length-take}
use Rattle.std.proofs.lemmas.List.Elements.{All-nil, All-cons, All-append, All-head, All-take}
use Rattle.std.proofs.lemmas.Result.{IfOk-at_ok}
use Rattle.dv_defs.specs.declared.code.PoolKind.{PoolKind}
use Rattle.dv_defs.specs.declared.code.PoolKind.TheVariants as pool_kind
use Rattle.dv_defs.specs.declared.code.Regs.{Regs}
use Rattle.dv_defs.specs.declared.faults.LineKind.{LineKind}
use Rattle.dv_defs.specs.Families.{pool_at}
use Rattle.dv_defs.specs.Spelling.{few, neighbours}
use Rattle.dv_optable.specs.Table.{Entry, entry_at, format_at, table}
use Rattle.dv_draft.specs.declared.draft.Draftop.{Draftop}
use Rattle.dv_draft.specs.declared.draft.PoolRef.{PoolRef}
use Rattle.dv_draft.specs.declared.draft.PoolRef.TheVariants as pool
use Rattle.dv_coderead.specs.declared.words.Frame.{Frame}
use Rattle.dv_coderead.specs.declared.shape.Literal.{Literal}
use Rattle.dv_coderead.specs.declared.shape.Registers.{Registers}
use Rattle.dv_coderead.specs.declared.shape.Registers.TheVariants as registers
use Rattle.dv_coderead.specs.Laws.{TypesAreRead, PrototypesAreRead}
use Rattle.dv_coderead.specs.Operands.{Part, and_behind, as_entry, braces_at, comma_at, dots_at, each_at, ended, entry_at as pool_entry_at, entry_in, entry_of, few_at, has_label, is_closed, is_first, label_at, last_at, list_at, literal_at, literal_by, mark_at, more_at, neighbours_at, next_at, next_register_at, one_at, operands_in, range_of, register_at, registers_at, registers_in, some_label, three_at, two_at, value_in, with_register, word_at}
use Rattle.dv_coderead.specs.Pieces.{Piece, AWord, AMark, AString, ACharacter}
use Rattle.dv_coderead.specs.References.{field_in, method_in, type_in}
use Rattle.dv_coderead.specs.Words.{label_in, register_in}
use Rattle.law_listing.specs.Listable.{AreRegisters, IsEntryText, IsLabelText, IsListedOp, IsNameText, IsTypeText, IsFieldText, IsMethodText}
use Rattle.law_listing.specs.ReadLaws.{ArePieceTexts, IsPieceText}
use Rattle.dv_coderead.proofs.Formed.{operands_are_formed}
use Rattle.law_listing.proofs.ReadParts.{GivesPart, LeavesTexts, behind_text, behind_texts, comma_leaves, dots_leave, either, mark_leaves, of_word, with_rest}
use Rattle.dv_coderead.proofs.FormedParts.{after as after_any, after_such}
use Rattle.law_listing.proofs.ReadWords.{IsRegister, field_word_text, label_listed, method_word_text, register_listed, type_word_text}

-- ---- opcodes

-- an opcode that a row has is one of the table's
row_small : (es : List Entry) (op : ℕ) → list_all (λ (e : Entry). nat_lt e.opcode 256) es ≡ true → is_some (find (λ (e : Entry). e.opcode == op) es) ≡ true → op < 256
row_small [] op small is = absurd (cc)
row_small (e ∷ es) op small is =
    let p = and_parts (nat_lt e.opcode 256) (list_all (λ (f : Entry). nat_lt f.opcode 256) es) small in
    let P : Option Entry → Type 0 = λ o. is_some o ≡ true → op < 256 in
    cond_both (e.opcode == op) (Some e) (find (λ (f : Entry). f.opcode == op) es) P
    (λ same _. let here = eqb-true e.opcode op same in let lt = ltb-true e.opcode 256 p.0 in omega arith) (λ _ there. row_small es op p.1 there) is

has_row : (o : Option Entry) → IsSome (option_map (λ (e : Entry). e.format) o) → is_some o ≡ true
has_row None is = is
has_row (Some e) is = refl

pub opcode_small : (op : ℕ) → IsSome (format_at op) → op < 256
unfolding format_at entry_at table
opcode_small op some = row_small table op refl (has_row (find (λ (e : Entry). e.opcode == op) table) some)

-- ---- registers

abbrev AreSmall : List ℕ → Type 0
AreSmall rs = All IsRegister rs

none_small : IsRegister 0
none_small = lit< tt

zeros_small : AreSmall (0 ∷ 0 ∷ 0 ∷ 0 ∷ [])
zeros_small =
    All-cons IsRegister 0 (0 ∷ 0 ∷ 0 ∷ []) none_small (All-cons IsRegister 0 (0 ∷ 0 ∷ []) none_small
    (All-cons IsRegister 0 (0 ∷ []) none_small (All-cons IsRegister 0 [] none_small (All-nil IsRegister))))

few_size : (rs : List ℕ) → length (take 5 (rs ++ 0 ∷ 0 ∷ 0 ∷ 0 ∷ 0 ∷ [])) ≡ 5
few_size rs = simp (length-take, length-append) (omega arith)

few_small : (rs : List ℕ) → AreSmall rs → AreRegisters (few rs)
few_small rs are = record {
  places = few_size rs;
  small = All-take IsRegister 5 (rs ++ 0 ∷ 0 ∷ 0 ∷ 0 ∷ 0 ∷ []) (All-append IsRegister rs (0 ∷ 0 ∷ 0 ∷ 0 ∷ 0 ∷ []) are
      (All-cons IsRegister 0 (0 ∷ 0 ∷ 0 ∷ 0 ∷ []) none_small zeros_small));
  last = λ range. absurd (cc);
}

neighbours_small : (first count : ℕ) → IsRegister first → first + count ≤ 2 ^ 16 → AreRegisters (neighbours first count)
neighbours_small first count is within = record { places = refl; small = All-cons IsRegister first (0 ∷ 0 ∷ 0 ∷ 0 ∷ []) is zeros_small; last = λ range. within }

one_small : (a : ℕ) → IsRegister a → AreSmall (a ∷ [])
one_small a is = All-cons IsRegister a [] is (All-nil IsRegister)

abbrev GivesRegisters : Part Regs → Type 0
GivesRegisters read = GivesPart AreRegisters read

abbrev GivesSmall : Part (List ℕ) → Type 0
GivesSmall read = GivesPart AreSmall read

abbrev IsSmallPart : ℕ × List Piece → Type 0
IsSmallPart x = IsRegister x.0 × ArePieceTexts x.1

abbrev AreSmallPart : List ℕ × List Piece → Type 0
AreSmallPart x = AreSmall x.0 × ArePieceTexts x.1

abbrev AreRegistersPart : Regs × List Piece → Type 0
AreRegistersPart x = AreRegisters x.0 × ArePieceTexts x.1

module _ (frame : Frame) where
  register_small : (ps : List Piece) → ArePieceTexts ps → GivesPart IsRegister (register_at frame ps)
  register_small ps are = of_word IsRegister (register_in frame) (λ w _. register_listed frame w) ps are

  next_small : (ps : List Piece) → ArePieceTexts ps → GivesPart IsRegister (next_register_at frame ps)
  unfolding next_register_at
  next_small ps are = after_such IsSmallPart ArePieceTexts (comma_at ps) _ (comma_leaves ps are) register_small

  one_registers : (ps : List Piece) → ArePieceTexts ps → GivesRegisters (one_at frame ps)
  unfolding one_at
  one_registers ps are = after_such AreRegistersPart IsSmallPart (register_at frame ps) _ (register_small ps are) (λ a is. (few_small (a.0 ∷ []) (one_small a.0 is.0), is.1))

  two_registers : (ps : List Piece) → ArePieceTexts ps → GivesRegisters (two_at frame ps)
  unfolding two_at
  two_registers ps are =
      after_such AreRegistersPart IsSmallPart (register_at frame ps) _ (register_small ps are) (λ a first.
      after_such AreRegistersPart IsSmallPart (next_register_at frame a.1) _ (next_small a.1 first.1) (λ b second.
      (few_small (a.0 ∷ b.0 ∷ []) (All-cons IsRegister a.0 (b.0 ∷ []) first.0 (one_small b.0 second.0)), second.1)))

  three_registers : (ps : List Piece) → ArePieceTexts ps → GivesRegisters (three_at frame ps)
  unfolding three_at
  three_registers ps are =
      after_such AreRegistersPart IsSmallPart (register_at frame ps) _ (register_small ps are) (λ a first.
      after_such AreRegistersPart IsSmallPart (next_register_at frame a.1) _ (next_small a.1 first.1) (λ b second.
      after_such AreRegistersPart IsSmallPart (next_register_at frame b.1) _ (next_small b.1 second.1) (λ c third. (
        few_small (a.0 ∷ b.0 ∷ c.0 ∷ [])
            (All-cons IsRegister a.0 (b.0 ∷ c.0 ∷ []) first.0 (All-cons IsRegister b.0 (c.0 ∷ []) second.0 (one_small c.0 third.0))),
        third.1,
      ))))

  each_registers : (n : ℕ) (ps : List Piece) → ArePieceTexts ps → GivesRegisters (each_at n frame ps)
  each_registers n ps are =
      either AreRegistersPart (n == 0) _ _ (few_small [] (All-nil IsRegister), are)
      (either AreRegistersPart (n == 1) _ _ (one_registers ps are)
      (either AreRegistersPart (n == 2) _ _ (two_registers ps are) (three_registers ps are)))

  front_small : (r : ℕ) (read : Part (List ℕ)) → IsRegister r → GivesSmall read → GivesSmall (with_register r read)
  front_small r (Ok x) is are = (All-cons IsRegister r x.0 is are.0, are.1)
  front_small r (Err k) is are = tt

  more_leaves : (ps : List Piece) → ArePieceTexts ps → IfOk (more_at ps) (λ x. ArePieceTexts x.1)
  more_leaves ps are =
      let P : Bool × List Piece → Type 0 = λ x. ArePieceTexts x.1 in
      either P (is_closed ps) _ _ (behind_texts ps are) (after_such P ArePieceTexts (comma_at ps) _ (comma_leaves ps are) (λ rest is. is))

  list_small : (room : ℕ) (ps : List Piece) → ArePieceTexts ps → GivesSmall (list_at room frame ps)
  unfolding list_at
  list_small zero ps are = tt
  list_small (suc room) ps are =
      after_such AreSmallPart IsSmallPart (register_at frame ps) _ (register_small ps are) (λ r is.
      after_such AreSmallPart (λ x. ArePieceTexts x.1) (more_at r.1) _ (more_leaves r.1 is.1) (λ more left.
      either AreSmallPart more.0 _ _ (front_small r.0 (list_at room frame more.1) is.0 (list_small room more.1 left)) (one_small r.0 is.0, left)))

  few_registers : (read : Part (List ℕ)) → GivesSmall read → GivesRegisters (few_at read)
  few_registers (Ok x) are = (few_small x.0 are.0, are.1)
  few_registers (Err k) are = tt

  braces_registers : (ps : List Piece) → ArePieceTexts ps → GivesRegisters (braces_at frame ps)
  unfolding braces_at
  braces_registers ps are =
      after_such AreRegistersPart ArePieceTexts (mark_at 123 ps) _ (mark_leaves 123 ps are) (λ inside is.
      few_registers _ (either AreSmallPart (is_closed inside) _ _ (All-nil IsRegister, behind_texts inside is) (list_small 5 inside is)))

  range_registers : (first last : ℕ) → IsRegister first → IsRegister last → IfOk (range_of first last) AreRegisters
  range_registers first last is ends =
      let P : Result Regs LineKind → Type 0 = λ r. IfOk r AreRegisters in
      cond_both (nat_le first last && nat_lt (last - first) 255) _ _ P
      (λ e.
      let le = leb-true first last (and_parts (nat_le first last) (nat_lt (last - first) 255) e).0 in
      neighbours_small first (last - first + 1) is (omega arith))
      (λ _. tt)

  last_registers : (first : ℕ) (ps : List Piece) → IsRegister first → ArePieceTexts ps → GivesRegisters (last_at frame first ps)
  unfolding last_at
  last_registers first ps is are =
      after_such AreRegistersPart ArePieceTexts (dots_at ps) _ (dots_leave ps are) (λ dots behind_dots.
      after_such AreRegistersPart IsSmallPart (register_at frame dots) _ (register_small dots behind_dots) (λ last found.
      after_such AreRegistersPart ArePieceTexts (mark_at 125 last.1) _ (mark_leaves 125 last.1 found.1) (λ rest left.
      with_rest AreRegisters rest (range_of first last.0) left (range_registers first last.0 is found.0))))

  neighbours_registers : (ps : List Piece) → ArePieceTexts ps → GivesRegisters (neighbours_at frame ps)
  unfolding neighbours_at
  neighbours_registers ps are =
      after_such AreRegistersPart ArePieceTexts (mark_at 123 ps) _ (mark_leaves 123 ps are) (λ inside is.
      either AreRegistersPart (is_closed inside) _ _ (neighbours_small 0 0 none_small (omega arith), behind_texts inside is)
      (after_such AreRegistersPart IsSmallPart (register_at frame inside) _ (register_small inside is) (λ a found.
      either AreRegistersPart (is_closed a.1) _ _ (neighbours_small a.0 1 found.0 (omega (arith, found.0)), behind_texts a.1 found.1) (last_registers a.0 a.1 found.0 found.1))))

  registers_small : (form : Registers) (ps : List Piece) → ArePieceTexts ps → GivesRegisters (registers_at form frame ps)
  registers_small (registers.Each n) ps are = each_registers n ps are
  registers_small registers.Braces ps are = braces_registers ps are
  registers_small registers.Neighbours ps are = neighbours_registers ps are

-- ---- the other operands

literal_leaves : (l : Option Literal) (ps : List Piece) → ArePieceTexts ps → IfOk (literal_at l ps) (λ x. ArePieceTexts x.1)
unfolding literal_at
literal_leaves None ps are = are
literal_leaves (Some l) ps are =
    let P : ℤ × List Piece → Type 0 = λ x. ArePieceTexts x.1 in
    after_such P ArePieceTexts (comma_at ps) _ (comma_leaves ps are) (λ rest left. value_leaves rest left)
  where
    value_leaves : (rest : List Piece) → ArePieceTexts rest → IfOk (word_at (value_in l) rest) (λ x. ArePieceTexts x.1)
    value_leaves [] left = tt
    value_leaves (AWord w ∷ rest) left = behind_leaves (value_in l w) rest (behind_text (AWord w) rest left)
      where
        behind_leaves : (read : Result ℤ LineKind) (qs : List Piece) → ArePieceTexts qs → IfOk (and_behind qs read) (λ x. ArePieceTexts x.1)
        behind_leaves (Ok z) qs is = is
        behind_leaves (Err k) qs is = tt
    value_leaves (AMark b ∷ rest) left = tt
    value_leaves (AString units ∷ rest) left = tt
    value_leaves (ACharacter unit ∷ rest) left = tt

next_leaves : (first : Bool) (ps : List Piece) → ArePieceTexts ps → LeavesTexts (next_at first ps)
next_leaves true ps are = are
next_leaves false ps are = comma_leaves ps are

some_listed : (read : Part (List ℕ)) → GivesPart IsNameText read → GivesPart IsLabelText (some_label read)
some_listed (Ok x) is = is
some_listed (Err k) is = tt

label_part_listed : (has first : Bool) (ps : List Piece) → ArePieceTexts ps → GivesPart IsLabelText (label_at has first ps)
unfolding label_at
label_part_listed true first ps are =
    let P : Option (List ℕ) × List Piece → Type 0 = λ x. IsLabelText x.0 × ArePieceTexts x.1 in
    after_such P ArePieceTexts (next_at first ps) _ (next_leaves first ps are) (λ rest left.
    some_listed (word_at label_in rest) (of_word IsNameText label_in label_listed rest left))
label_part_listed false first ps are = (tt, are)

pub entry_made : {A : Type 0} (P : A → Type 0) (f : A → PoolRef) (read : Result A LineKind) → ((x : A) → P x → IsEntryText (f x)) → IfOk read P → IfOk (as_entry f read) IsEntryText
entry_made P f (Ok x) goes is = goes x is
entry_made P f (Err k) goes is = tt

module _ (types : TypesAreRead) (protos : PrototypesAreRead) where
  entry_in_listed : (kind : PoolKind) (p : Piece) → IsPieceText p → IfOk (entry_in kind p) IsEntryText
  entry_in_listed pool_kind.Strings (AString units) is = is
  entry_in_listed pool_kind.Types (AWord w) is = entry_made IsTypeText pool.OfType (type_in w) (λ t named. named) (type_word_text types w is)
  entry_in_listed pool_kind.Fields (AWord w) is = entry_made IsFieldText pool.Field (field_in w) (λ f named. named) (field_word_text types protos w is)
  entry_in_listed pool_kind.Methods (AWord w) is = entry_made IsMethodText pool.Method (method_in w) (λ m named. named) (method_word_text types protos w is)
  entry_in_listed kind p is = tt

  entry_of_listed : (kind : PoolKind) (ps : List Piece) → ArePieceTexts ps → GivesPart IsEntryText (entry_of kind ps)
  entry_of_listed kind [] are = tt
  entry_of_listed kind (p ∷ ps) are = with_rest IsEntryText ps (entry_in kind p) (behind_text p ps are) (entry_in_listed kind p (All-head IsPieceText p ps are))

  entry_listed : (kind : Option PoolKind) (ps : List Piece) → ArePieceTexts ps → GivesPart IsEntryText (pool_entry_at kind ps)
  unfolding pool_entry_at
  entry_listed None ps are = (tt, are)
  entry_listed (Some kind) ps are =
      let P : PoolRef × List Piece → Type 0 = λ x. IsEntryText x.0 × ArePieceTexts x.1 in
      after_such P ArePieceTexts (comma_at ps) _ (comma_leaves ps are) (entry_of_listed kind)

  -- ---- an instruction

  -- what is listed of an instruction beside its form
  record HasListed (d : Draftop) : Type 0 where
    registers : AreRegisters d.insn.regs
    label : IsLabelText d.label
    entry : IsEntryText d.pool
    offset : d.insn.off ≡ pos 0
    index : d.insn.index ≡ 0

  parts_listed : (frame : Frame) (op : ℕ) (ps : List Piece) → ArePieceTexts ps → IfOk (operands_in frame op ps) HasListed
  unfolding operands_in
  parts_listed frame op ps are =
      let form = registers_in (format_at op) in
      let literal = literal_by (format_at op) op in
      let has = has_label (format_at op) in
      after_such HasListed AreRegistersPart (registers_at form frame ps) _ (registers_small frame form ps are) (λ regs is.
      after_such HasListed (λ x. ArePieceTexts x.1) (literal_at literal regs.1) _ (literal_leaves literal regs.1 is.1) (λ lit left.
      after_such HasListed (λ x. IsLabelText x.0 × ArePieceTexts x.1) (label_at has (is_first form) lit.1) _ (label_part_listed has (is_first form) lit.1 left) (λ label named.
      after_such HasListed (λ x. IsEntryText x.0 × ArePieceTexts x.1) (pool_entry_at (pool_at op) label.1) _ (entry_listed (pool_at op) label.1 named.1) (λ entry told.
      after_any HasListed (ended entry.1) _ (λ _. record { registers = is.0; label = named.0; entry = told.0; offset = refl; index = refl })))))

  pub operands_listed : (frame : Frame) (op : ℕ) (ps : List Piece) (d : Draftop) → IsSome (format_at op) → ArePieceTexts ps → operands_in frame op ps ≡ Ok d → IsListedOp d
  operands_listed frame op ps d some are e =
      let has = IfOk-at_ok HasListed e (parts_listed frame op ps are) in
      record {
        formed = operands_are_formed frame op ps d (opcode_small op some) some e;
        registers = has.registers;
        label = has.label;
        entry = has.entry;
        offset = has.offset;
        index = has.index;
      }
