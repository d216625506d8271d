-- All lines of a draft's text, one after another: what they tell is the draft, but for its lines.
use Rattle.std.proofs.Common.{◌≡◌, ℕ, ◌+◌, true, List, [], ◌∷◌, ◌++◌, length, map, codes, Some, None, Result, Ok, All, IsTrue, refl, sym, ap, ◌∙◌, subst, append_assoc, append-nil, arith}
use Rattle.std.specs.Prelude.{ℤ, decimal}
use Rattle.std.specs.Fmt.{signed_decimal}
use Rattle.std.specs.List.{flat_map, list_all, zip}
use Rattle.std.proofs.lemmas.Bool.{and_parts}
use Rattle.std.proofs.lemmas.List.Elements.{All-head, All-tail}
use Rattle.dv_defs.specs.Spelling.{fits_signed}
use Rattle.dv_defs.specs.Tiling.{is_width}
use Rattle.dv_defs.specs.Numbers.{elements}
use Rattle.dv_draft.specs.declared.draft.Item.{Item}
use Rattle.dv_draft.specs.declared.draft.Catch.{Catch}
use Rattle.dv_draft.specs.declared.draft.What.{What}
use Rattle.dv_draft.specs.declared.draft.What.TheVariants as what
use Rattle.dv_draft.specs.Draft.{DraftValue}
use Rattle.dv_lex.specs.declared.line.Stop.{Stop}
use Rattle.dv_print.specs.Draft.{element_count}
use Rattle.dv_coderead.specs.declared.words.Frame.{Frame}
use Rattle.dv_coderead.specs.declared.body_line.Opening.{Opening}
use Rattle.dv_coderead.specs.declared.body_line.Opening.TheVariants as opening
use Rattle.dv_coderead.specs.declared.body_line.Context.{Context}
use Rattle.dv_coderead.specs.declared.body_line.BodyLine.{BodyLine}
use Rattle.dv_coderead.specs.declared.body_line.BodyLine.TheVariants as line
use Rattle.dv_coderead.specs.Giving.{◌>>>◌, on_line}
use Rattle.dv_coderead.specs.Pieces.{Piece}
use Rattle.dv_coderead.specs.Laws.{TypesAreRead}
use Rattle.dv_coderead.specs.BodyLines.{body_line}
use Rattle.dv_coderead.specs.Bodies.{Told, nothing_before, told_next, and_told, told_by, told_behind, targets, keys, case_labels, element_bytes, data_bytes, payload_of, items_of, catches_of, draft_of, finished}
use Rattle.law_listing.specs.Printed.{numbered}
use Rattle.law_listing.specs.Listable.{IsNameText}
use Rattle.law_listing.specs.DraftListable.{AreNameTexts, IsListedWhat, IsListedItem, IsListedCatch, IsListedDraft}
use Rattle.law_listing.specs.OperandPieces.{insn_pieces, InstructionsAreRead}
use Rattle.law_listing.specs.DraftPieces.{one_word, two_words, target_line, case_pieces, element_pieces, what_lines, item_lines, catch_pieces, registers_line, draft_pieces}
use Rattle.law_listing.specs.DraftLaws.{what_of, unlined_catch, IsReadAgain}
use Rattle.law_listing.proofs.DraftElements.{Fits, elements_again, elements_fit, all_counted}
use Rattle.law_listing.proofs.DraftRead.{inside, frame_of, registers_read, label_told, op_told, catch_told, handler_at, packed_told, sparse_told, data_told, target_told, end_packed_told, case_told, end_sparse_told, element_told, end_data_told}

-- ---- lines that are told one by one

-- From a context on, these lines, of which the first has this number, tell this and leave another context; the line behind them has that number.
data Tells (arguments : ℕ) : Context → ℕ → List (List Piece) → List Told → Context → ℕ → Type 0 where
  NoLine : (c : Context) (n : ℕ) → Tells arguments c n [] [] c n
  OneLine : (c d : Context) (n m : ℕ) (ps : List Piece) (more : List (List Piece)) (says : BodyLine) (ts : List Told) → body_line arguments c n ps ≡ Ok says
      → Tells arguments (told_next c says) (n + 1) more ts d m → Tells arguments c n (ps ∷ more) (record { number = n; says = says } ∷ ts) d m

tells_append : (arguments : ℕ) (b c d : Context) (n m k : ℕ) (pss qss : List (List Piece)) (ts us : List Told) → Tells arguments b n pss ts c m → Tells arguments c m qss us d k → Tells arguments b n (pss ++ qss) (ts ++ us) d k
tells_append arguments b c d n m k pss qss ts us (NoLine b2 n2) more = more
tells_append arguments b c d n m k pss qss ts us (OneLine b2 c2 n2 m2 ps pss2 says ts2 is rest) more =
    OneLine b2 d n2 k ps (pss2 ++ qss) says (ts2 ++ us) is (tells_append arguments (told_next b2 says) c2 d (n2 + 1) m2 k pss2 qss ts2 us rest more)

-- they are told by the definition
all_told : (arguments : ℕ) (c d : Context) (n m : ℕ) (pss : List (List Piece)) (ts : List Told) → Tells arguments c n pss ts d m → told_by arguments c (numbered n pss) ≡ Ok ts
unfolding told_by
all_told arguments c d n m pss ts (NoLine c2 n2) = refl
all_told arguments c d n m pss ts (OneLine c2 d2 n2 m2 ps more says ts2 is rest) =
    ap (λ (r : Result BodyLine _). on_line n2 r >>> λ s. and_told n2 s (told_by arguments (told_next c2 s) (numbered (n2 + 1) more))) is ∙
    ap (and_told n2 says) (all_told arguments (told_next c2 says) d2 (n2 + 1) m2 more ts2 rest)

all_behind : (arguments : ℕ) (c d : Context) (n m : ℕ) (pss : List (List Piece)) (ts : List Told) → Tells arguments c n pss ts d m → told_behind c ts ≡ d
unfolding told_behind
all_behind arguments c d n m pss ts (NoLine c2 n2) = refl
all_behind arguments c d n m pss ts (OneLine c2 d2 n2 m2 ps more says ts2 is rest) = all_behind arguments (told_next c2 says) d2 (n2 + 1) m2 more ts2 rest

-- ---- the lines of payloads behind their first

module _ (arguments : ℕ) (frame : Frame) where
  abbrev outside : Context
  outside = inside frame None

  -- what stands in a block and ends it tells no item and no handler of its own
  record EndsBlock (block : Opening) (n : ℕ) (pss : List (List Piece)) : Type 0 where
    told : List Told
    end : ℕ
    tells : Tells arguments (inside frame (Some block)) n pss told outside end
    no_items : (us : List Told) → items_of (told ++ us) ≡ items_of us
    no_catches : (us : List Told) → catches_of (told ++ us) ≡ catches_of us

  record TellsTargets (first : ℤ) (names : List (List ℕ)) (n : ℕ) : Type 0 where
    block : EndsBlock (opening.Packed first) n (map target_line names ++ two_words (codes ".end") (codes "packed-switch") ∷ [])
    names_told : (us : List Told) → targets (block.told ++ us) ≡ names

  targets_told : (first : ℤ) (names : List (List ℕ)) (n : ℕ) → AreNameTexts names → TellsTargets first names n
  unfolding targets items_of catches_of
  targets_told first [] n are = record {
    block = record {
      told = record { number = n; says = line.End } ∷ [];
      end = n + 1;
      tells = OneLine _ _ n (n + 1) _ [] line.End [] (end_packed_told arguments frame n first) (NoLine outside (n + 1));
      no_items = λ us. refl;
      no_catches = λ us. refl;
    };
    names_told = λ us. refl;
  }
  targets_told first (name ∷ names) n are =
      let rest = targets_told first names (n + 1) (All-tail IsNameText name names are) in
      record {
        block = record {
          told = record { number = n; says = line.Target name } ∷ rest.block.told;
          end = rest.block.end;
          tells = OneLine _ _ n rest.block.end _ _ (line.Target name) _ (target_told arguments frame n first name (All-head IsNameText name names are)) rest.block.tells;
          no_items = rest.block.no_items;
          no_catches = rest.block.no_catches;
        };
        names_told = λ us. ap (λ (l : List (List ℕ)). name ∷ l) (rest.names_told us);
      }

  record TellsCases (ks : List ℤ) (names : List (List ℕ)) (n : ℕ) : Type 0 where
    block : EndsBlock opening.Sparse n (map case_pieces (zip ks names) ++ two_words (codes ".end") (codes "sparse-switch") ∷ [])
    keys_told : (us : List Told) → keys (block.told ++ us) ≡ ks
    names_told : (us : List Told) → case_labels (block.told ++ us) ≡ names

  cases_told : (ks : List ℤ) (names : List (List ℕ)) (n : ℕ) → list_all (λ z. fits_signed 32 z) ks ≡ true → length names ≡ length ks → AreNameTexts names → TellsCases ks names n
  unfolding keys case_labels items_of catches_of
  cases_told [] [] n fit same are = record {
    block = record {
      told = record { number = n; says = line.End } ∷ [];
      end = n + 1;
      tells = OneLine _ _ n (n + 1) _ [] line.End [] (end_sparse_told arguments frame n) (NoLine outside (n + 1));
      no_items = λ us. refl;
      no_catches = λ us. refl;
    };
    keys_told = λ us. refl;
    names_told = λ us. refl;
  }
  cases_told [] (name ∷ names) n fit same are = absurd (omega arith)
  cases_told (k ∷ ks) [] n fit same are = absurd (omega arith)
  cases_told (k ∷ ks) (name ∷ names) n fit same are =
      let p = and_parts (fits_signed 32 k) (list_all (λ z. fits_signed 32 z) ks) fit in
      let rest = cases_told ks names (n + 1) p.1 (omega arith) (All-tail IsNameText name names are) in
      record {
        block = record {
          told = record { number = n; says = line.Case k name } ∷ rest.block.told;
          end = rest.block.end;
          tells = OneLine _ _ n rest.block.end _ _ (line.Case k name) _ (case_told arguments frame n k name p.0 (All-head IsNameText name names are)) rest.block.tells;
          no_items = rest.block.no_items;
          no_catches = rest.block.no_catches;
        };
        keys_told = λ us. ap (λ (l : List ℤ). k ∷ l) (rest.keys_told us);
        names_told = λ us. ap (λ (l : List (List ℕ)). name ∷ l) (rest.names_told us);
      }

  record TellsElements (width : ℕ) (zs : List ℤ) (n : ℕ) : Type 0 where
    block : EndsBlock (opening.Data width) n (map (element_pieces width) zs ++ two_words (codes ".end") (codes "array-data") ∷ [])
    bytes_told : (us : List Told) → data_bytes width (block.told ++ us) ≡ flat_map (element_bytes width) zs

  elements_told : (width : ℕ) (zs : List ℤ) (n : ℕ) → IsTrue (is_width width) → All (Fits width) zs → TellsElements width zs n
  unfolding data_bytes items_of catches_of
  elements_told width [] n is fit = record {
    block = record {
      told = record { number = n; says = line.End } ∷ [];
      end = n + 1;
      tells = OneLine _ _ n (n + 1) _ [] line.End [] (end_data_told arguments frame n width) (NoLine outside (n + 1));
      no_items = λ us. refl;
      no_catches = λ us. refl;
    };
    bytes_told = λ us. refl;
  }
  elements_told width (z ∷ zs) n is fit =
      let rest = elements_told width zs (n + 1) is (All-tail (Fits width) z zs fit) in
      record {
        block = record {
          told = record { number = n; says = line.Elements (z ∷ []) } ∷ rest.block.told;
          end = rest.block.end;
          tells = OneLine _ _ n rest.block.end _ _ (line.Elements (z ∷ [])) _ (element_told arguments frame n width z is (All-head (Fits width) z zs fit)) rest.block.tells;
          no_items = rest.block.no_items;
          no_catches = rest.block.no_catches;
        };
        bytes_told = λ us.
            ap (λ (l : List ℕ). l ++ data_bytes width (rest.block.told ++ us)) (append-nil (element_bytes width z))
            ∙ ap (λ (l : List ℕ). element_bytes width z ++ l) (rest.bytes_told us);
      }

  -- ---- items and handlers

  -- these lines, from this number on, tell these items and these handlers, but for their lines
  record TellsPart (pss : List (List Piece)) (whats : List What) (catches : List Catch) (n : ℕ) : Type 0 where
    told : List Told
    end : ℕ
    tells : Tells arguments outside n pss told outside end
    items : (us : List Told) → map what_of (items_of (told ++ us)) ≡ whats ++ map what_of (items_of us)
    handlers : (us : List Told) → map unlined_catch (catches_of (told ++ us)) ≡ catches ++ map unlined_catch (catches_of us)

  -- an item of one line
  of_line : (ps : List Piece) (says : BodyLine) (w : What) (n : ℕ) → body_line arguments outside n ps ≡ Ok says → told_next outside says ≡ outside → ((us : List Told) → map what_of (items_of (record { number = n; says = says } ∷ us)) ≡ w ∷ map what_of (items_of us)) → ((us : List Told) → catches_of (record { number = n; says = says } ∷ us) ≡ catches_of us) → TellsPart (ps ∷ []) (w ∷ []) [] n
  of_line ps says w n is stays items handlers = record {
    told = record { number = n; says = says } ∷ [];
    end = n + 1;
    tells = OneLine outside outside n (n + 1) ps [] says [] is (subst (λ (c : Context). Tells arguments c (n + 1) [] [] outside (n + 1)) (sym stays) (NoLine outside (n + 1)));
    items = items;
    handlers = λ us. ap (map unlined_catch) (handlers us);
  }

  -- a payload: its first line, and its block
  of_block : (ps : List Piece) (o : Opening) (pss : List (List Piece)) (w : What) (n : ℕ) → body_line arguments outside n ps ≡ Ok (line.Begin o) → (b : EndsBlock o (n + 1) pss) → ((us : List Told) → payload_of o (b.told ++ us) ≡ w) → TellsPart (ps ∷ pss) (w ∷ []) [] n
  unfolding items_of catches_of
  of_block ps o pss w n is b payload = record {
    told = record { number = n; says = line.Begin o } ∷ b.told;
    end = b.end;
    tells = OneLine outside outside n b.end ps pss (line.Begin o) b.told is b.tells;
    items = λ us. λ i. payload us i ∷ map what_of (b.no_items us i);
    handlers = λ us. ap (map unlined_catch) (b.no_catches us);
  }

  what_told : InstructionsAreRead → (w : What) (n : ℕ) → IsListedWhat w → TellsPart (what_lines w) (w ∷ []) [] n
  unfolding items_of catches_of
  what_told ops (what.Label name) n is =
      of_line (target_line name) (line.Label name) (what.Label name) n (label_told arguments frame n name is) refl (λ us. refl) (λ us. refl)
  what_told ops (what.Op op) n is =
      of_line (insn_pieces op) (line.Op op) (what.Op op) n (op_told arguments frame n op (ops op is)) refl (λ us. refl) (λ us. refl)
  what_told ops (what.Packed first names) n is =
      let rest = targets_told first names (n + 1) is.1 in
      of_block (two_words (codes ".packed-switch") (signed_decimal first)) (opening.Packed first) _ (what.Packed first names) n
      (packed_told arguments frame n first is.0) rest.block (λ us. ap (λ (l : List (List ℕ)). what.Packed first l) (rest.names_told us))
  what_told ops (what.Sparse ks names) n is =
      let rest = cases_told ks names (n + 1) is.0 is.1 is.2 in
      of_block (one_word (codes ".sparse-switch")) opening.Sparse _ (what.Sparse ks names) n
      (sparse_told arguments frame n) rest.block (λ us. λ i. what.Sparse (rest.keys_told us i) (rest.names_told us i))
  what_told ops (what.Data width bytes) n is =
      let count = all_counted width bytes is.0 is.1 in
      let zs = elements (element_count width bytes) width bytes in
      let rest = elements_told width zs (n + 1) is.0 (elements_fit width (element_count width bytes) bytes is.0 count is.2) in
      of_block (two_words (codes ".array-data") (decimal width)) (opening.Data width) _ (what.Data width bytes) n
      (data_told arguments frame n width is.0) rest.block
      (λ us. ap (λ (l : List ℕ). what.Data width l) (rest.bytes_told us ∙ elements_again width (element_count width bytes) bytes is.0 count is.2))

  handler_told : TypesAreRead → (c : Catch) (n : ℕ) → IsListedCatch c → TellsPart (catch_pieces c ∷ []) [] (unlined_catch c ∷ []) n
  unfolding items_of catches_of
  handler_told types c n is = record {
    told = record { number = n; says = line.Handler (handler_at arguments frame n c) } ∷ [];
    end = n + 1;
    tells = OneLine outside outside n (n + 1) (catch_pieces c) [] _ [] (catch_told arguments frame n types c is) (NoLine outside (n + 1));
    items = λ us. refl;
    handlers = λ us. refl;
  }

  no_part : (n : ℕ) → TellsPart [] [] [] n
  no_part n = record { told = []; end = n; tells = NoLine outside n; items = λ us. refl; handlers = λ us. refl }

  -- one part before another
  parts : (pss qss : List (List Piece)) (v w : List What) (c d : List Catch) (n : ℕ) → (a : TellsPart pss v c n) → TellsPart qss w d a.end → TellsPart (pss ++ qss) (v ++ w) (c ++ d) n
  parts pss qss v w c d n a b = record {
    told = a.told ++ b.told;
    end = b.end;
    tells = tells_append arguments outside outside outside n a.end b.end pss qss a.told b.told a.tells b.tells;
    items = λ us.
        ap (λ (l : List Told). map what_of (items_of l)) (append_assoc a.told b.told us) ∙
        (a.items (b.told ++ us) ∙ (ap (λ (l : List What). v ++ l) (b.items us) ∙ sym (append_assoc v w (map what_of (items_of us)))));
    handlers = λ us.
        ap (λ (l : List Told). map unlined_catch (catches_of l)) (append_assoc a.told b.told us) ∙
        (a.handlers (b.told ++ us) ∙ (ap (λ (l : List Catch). c ++ l) (b.handlers us) ∙ sym (append_assoc c d (map unlined_catch (catches_of us)))));
  }

  items_told : InstructionsAreRead → (items : List Item) (n : ℕ) → All IsListedItem items → TellsPart (flat_map item_lines items) (map what_of items) [] n
  items_told ops [] n all = no_part n
  items_told ops (item ∷ items) n all =
      let first = what_told ops item.what n (All-head IsListedItem item items all) in
      parts (item_lines item) (flat_map item_lines items) (item.what ∷ []) (map what_of items) [] [] n first
      (items_told ops items first.end (All-tail IsListedItem item items all))

  handlers_told : TypesAreRead → (catches : List Catch) (n : ℕ) → All IsListedCatch catches → TellsPart (map catch_pieces catches) [] (map unlined_catch catches) n
  handlers_told types [] n all = no_part n
  handlers_told types (c ∷ catches) n all =
      let first = handler_told types c n (All-head IsListedCatch c catches all) in
      parts (catch_pieces c ∷ []) (map catch_pieces catches) [] [] (unlined_catch c ∷ []) (map unlined_catch catches) n first
      (handlers_told types catches first.end (All-tail IsListedCatch c catches all))

-- ---- the draft

pub draft_read : InstructionsAreRead → TypesAreRead → (d : DraftValue) → IsListedDraft d → (arguments past n : ℕ) → IsReadAgain d arguments past n
unfolding items_of catches_of
draft_read ops types d is arguments past n =
    let frame = frame_of arguments d.registers in
    let items = items_told arguments frame ops d.items (n + 1) is.items in
    let catches = handlers_told arguments frame types d.catches items.end is.catches in
    let all = parts arguments frame (flat_map item_lines d.items) (map catch_pieces d.catches) (map what_of d.items) [] [] (map unlined_catch d.catches) (n + 1) items catches in
    let told : List Told = record { number = n; says = line.Registers frame } ∷ all.told in
    let tells : Tells arguments nothing_before n (draft_pieces d) told (inside frame None) all.end =
    OneLine nothing_before (inside frame None) n all.end (registers_line d.registers) _ (line.Registers frame) all.told (registers_read arguments n d.registers is.registers) all.tells in
    record {
      draft = draft_of (inside frame None) told;
      read =
          ap (λ (r : Result (List Told) Stop). r >>> λ ts. finished past 0 (told_behind nothing_before ts) ts) (all_told arguments nothing_before (inside frame None) n all.end (draft_pieces d) told tells) ∙
          ap (λ (c : Context). finished past 0 c told) (all_behind arguments nothing_before (inside frame None) n all.end (draft_pieces d) told tells);
      same = record {
        registers = refl;
        items = ap (λ (l : List Told). map what_of (items_of l)) (sym (append-nil all.told)) ∙ (all.items [] ∙ (append-nil _ ∙ append-nil (map what_of d.items)));
        catches = ap (λ (l : List Told). map unlined_catch (catches_of l)) (sym (append-nil all.told)) ∙ (all.handlers [] ∙ append-nil (map unlined_catch d.catches));
      };
    }
