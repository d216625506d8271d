-- What a line adds to a draft that is being read.
use Rattle.std.proofs.Common.{◌≡◌, ℕ, ◌+◌, ◌%◌, ◌≤◌, List, [], ◌∷◌, ◌++◌, length, ℤ, Some, None, Vec, Global, refl, sym, ap, ◌∙◌, append_assoc, append-nil, arith}
use Rattle.std.specs.Int.{w64, to_le_bytes}
use Rattle.std.specs.List.{flat_map}
use Rattle.std.specs.Prelude.{IsTrue, Result, Ok, Err, OnOk}
use Rattle.std.proofs.Math.Nat.{add-mod_right, zero-mod}
use Rattle.std.proofs.lemmas.Bool.Decides.{nat_tests}
use Rattle.std.proofs.lemmas.List.{length-append, length-take-le}
use Rattle.std.proofs.lemmas.List.Elements.{All-push, All-same}
use Rattle.dv_defs.specs.declared.names.Text.{Text}
use Rattle.dv_defs.specs.Numbers.{bits64}
use Rattle.dv_defs.specs.Tiling.{is_width}
use Rattle.dv_draft.specs.declared.draft.Item.{Item}
use Rattle.dv_draft.specs.declared.draft.Catch.{Catch}
use Rattle.dv_draft.specs.declared.draft.Draftop.{Draftop}
use Rattle.dv_draft.specs.declared.draft.What.TheVariants as what
use Rattle.dv_draft.specs.Draft.{AreFormed, IsFormed, IsOp}
use Rattle.dv_coderead.specs.declared.words.Frame.{Frame}
use Rattle.dv_coderead.specs.declared.body_line.Opening.{Opening}
use Rattle.dv_coderead.specs.declared.body_line.Opening.TheVariants as opening
use Rattle.dv_coderead.specs.declared.body_line.BodyLine.TheVariants as line
use Rattle.dv_coderead.specs.declared.drafting.Open.{Open}
use Rattle.dv_coderead.specs.declared.drafting.Drafting.{Drafting}
use Rattle.dv_coderead.specs.BodyLines.{HasWidth}
use Rattle.dv_coderead.specs.Bodies.{Told, targets, keys, case_labels, data_bytes, element_bytes, payload_of, items_of, catches_of}
use Rattle.dv_coderead.specs.Drafting.{payload_with, Adds, IsDrafting, IsOpen}

-- ---- answers

-- what a push makes of a draft, wherever there is memory for it
pub on_push : {T E : Type 0} (r : Result T E) {P Q : Type 0} → OnOk r P → (P → Q) → OnOk r Q
on_push (Ok x) h f = f h
on_push (Err e) h f = tt

-- ---- lists

-- an element more, in front of others
pub pushed : {A : Type 0} (front : List A) (x : A) (rest : List A) {new : List A} → new ≡ front ++ x ∷ [] → new ++ rest ≡ front ++ x ∷ rest
pushed front x rest e = ap (λ l. l ++ rest) e ∙ append_assoc front (x ∷ []) rest

-- an item more, where no payload is open
item_more : (items : List Item) (i : Item) (rest : List Item) {new : List Item} → new ≡ items ++ i ∷ [] → (new ++ []) ++ rest ≡ (items ++ []) ++ i ∷ rest
item_more items i rest {new} e = ap (λ l. l ++ rest) (append-nil new) ∙ pushed items i rest e ∙ sym (ap (λ l. l ++ i ∷ rest) (append-nil items))

-- an item more, in its form
formed_more : (items new : List Item) (i : Item) → new ≡ items ++ i ∷ [] → AreFormed items → IsFormed i.what → AreFormed new
formed_more items new i e are is =
    let P : Item → Type 0 = λ i. IsFormed i.what in
    All-same P new (items ++ i ∷ []) e (All-push P items i are is)

-- ---- elements of arrays

-- a long has as many bytes as an element of any width
few_bytes : (width : ℕ) (z : ℤ) → IsTrue (is_width width) → width ≤ length (to_le_bytes w64 (bits64 z))
few_bytes width z has = grind (arith, nat_tests)

-- an element has as many bytes as the array's width says
pub element_length : (width : ℕ) (z : ℤ) → IsTrue (is_width width) → length (element_bytes width z) ≡ width
element_length width z has = length-take-le width (to_le_bytes w64 (bits64 z)) (few_bytes width z has)

-- an element more leaves whole elements
whole_more : (front new more : List ℕ) (width : ℕ) → new ≡ front ++ more → length more ≡ width → length front % width ≡ 0 → length new % width ≡ 0
whole_more front new more width e size whole =
    ap (λ l. length l % width) e ∙ ap (λ k. k % width) (length-append front more ∙ ap (λ k. length front + k) size) ∙ add-mod_right (length front) width ∙ whole

-- elements more leave whole elements
elements_whole : (front : List ℕ) (width : ℕ) (zs : List ℤ) → IsTrue (is_width width) → length front % width ≡ 0 → length (front ++ flat_map (element_bytes width) zs) % width ≡ 0
elements_whole front width [] has whole = ap (λ l. length l % width) (append-nil front) ∙ whole
elements_whole front width (z ∷ zs) has whole =
    let one = element_bytes width z in
    ap (λ l. length l % width) (sym (append_assoc front one (flat_map (element_bytes width) zs)))
    ∙ elements_whole (front ++ one) width zs has (whole_more front (front ++ one) one width refl (element_length width z has) whole)

-- ---- lines outside payloads

module _ (d : Drafting) (n : ℕ) (keeps : IsDrafting d) (outside : d.context.block ≡ None) where
  -- the count of registers
  pub adds_registers : (f : Frame) → f.registers ≤ 256 → Adds d n (line.Registers f) (record d { context = record d.context { frame = Some f } })
  unfolding items_of catches_of
  adds_registers f few = record {
    drafting = record { registers = few; width = keeps.width; items = keeps.items; payload = keeps.payload };
    context = refl;
    items = λ ts. rw outside refl;
    catches = λ ts. refl;
  }

  -- a label, which is an item
  pub adds_label : (name : Text) (items : Vec Item Global) → items.items ≡ d.items.items ++ record { line = n; what = what.Label name } ∷ [] → Adds d n (line.Label name) (record d { items = items })
  unfolding items_of catches_of
  adds_label name items more =
      let i : Item = record { line = n; what = what.Label name } in
      record {
        drafting = record { registers = keeps.registers; width = keeps.width; items = formed_more _ _ i more keeps.items tt; payload = keeps.payload };
        context = refl;
        items = λ ts. rw outside (item_more d.items.items i (items_of ts) more);
        catches = λ ts. refl;
      }

  -- an instruction, which is an item
  pub adds_op : (op : Draftop) (items : Vec Item Global) → IsOp op → items.items ≡ d.items.items ++ record { line = n; what = what.Op op } ∷ [] → Adds d n (line.Op op) (record d { items = items })
  unfolding items_of catches_of
  adds_op op items is more =
      let i : Item = record { line = n; what = what.Op op } in
      record {
        drafting = record { registers = keeps.registers; width = keeps.width; items = formed_more _ _ i more keeps.items is; payload = keeps.payload };
        context = refl;
        items = λ ts. rw outside (item_more d.items.items i (items_of ts) more);
        catches = λ ts. refl;
      }

  -- a handler
  pub adds_handler : (c : Catch) (catches : Vec Catch Global) → catches.items ≡ d.catches.items ++ c ∷ [] → Adds d n (line.Handler c) (record d { catches = catches })
  unfolding items_of catches_of
  adds_handler c catches more = record {
    drafting = record { registers = keeps.registers; width = keeps.width; items = keeps.items; payload = keeps.payload };
    context = refl;
    items = λ ts. rw outside refl;
    catches = λ ts. ap (λ l. l ++ catches_of ts) more ∙ append_assoc d.catches.items (c ∷ []) (catches_of ts);
  }

  -- nothing is in a payload that has just begun
  begun : (o : Opening) (q : Open) (ts : List Told) → q.labels.items ≡ [] → q.keys.items ≡ [] → q.bytes.items ≡ [] → payload_with o q ts ≡ payload_of o ts
  begun (opening.Packed first) q ts labels keys bytes = ap (λ l. what.Packed first (l ++ targets ts)) labels
  begun opening.Sparse q ts labels keys_are bytes = ap (λ k. what.Sparse (k ++ keys ts) (q.labels.items ++ case_labels ts)) keys_are ∙ ap (λ l. what.Sparse (keys ts) (l ++ case_labels ts)) labels
  begun (opening.Data width) q ts labels keys bytes = ap (λ b. what.Data width (b ++ data_bytes width ts)) bytes

  -- and it can be an item
  begun_open : (o : Opening) (q : Open) → q.labels.items ≡ [] → q.keys.items ≡ [] → q.bytes.items ≡ [] → IsOpen (Some o) q
  begun_open (opening.Packed first) q labels keys bytes = (keys, bytes)
  begun_open opening.Sparse q labels keys bytes = (ap length labels ∙ sym (ap length keys), bytes)
  begun_open (opening.Data width) q labels keys bytes = (labels, keys, ap (λ b. length b % width) bytes ∙ zero-mod width)

  -- the first line of a payload
  pub adds_begin : (o : Opening) → HasWidth o → Adds d n (line.Begin o) (record d { context = record d.context { block = Some o }; «open» = record d.«open» { line = n } })
  unfolding items_of catches_of
  adds_begin o has =
      let none = rw outside at keeps.payload in
      let q : Open = record d.«open» { line = n } in
      record {
        drafting = record { registers = keeps.registers; width = has; items = keeps.items; payload = begun_open o q none.0 none.1 none.2 };
        context = refl;
        items = λ ts.
            let i : Item = record { line = n; what = payload_of o ts } in
            let now = ap (λ w. d.items.items ++ record { line = n; what = w } ∷ []) (begun o q ts none.0 none.1 none.2) in
            rw outside (pushed d.items.items i (items_of ts) now ∙ sym (ap (λ l. l ++ i ∷ items_of ts) (append-nil d.items.items)));
        catches = λ ts. refl;
      }

-- ---- lines of payloads

-- a payload that is open has its form
open_formed : (o : Opening) (q : Open) → HasWidth o → IsOpen (Some o) q → IsFormed (payload_with o q [])
unfolding targets keys case_labels data_bytes
open_formed (opening.Packed first) q has is = tt
open_formed opening.Sparse q has is = ap length (append-nil q.labels.items) ∙ is.0 ∙ sym (ap length (append-nil q.keys.items))
open_formed (opening.Data width) q has is = (has, ap (λ l. length l % width) (append-nil q.bytes.items) ∙ is.2)

-- the last line of a payload adds nothing to it
ended : (o : Opening) (q : Open) (n : ℕ) (ts : List Told) → payload_with o q [] ≡ payload_with o q (record { number = n; says = line.End } ∷ ts)
unfolding targets keys case_labels data_bytes
ended (opening.Packed first) q n ts = refl
ended opening.Sparse q n ts = refl
ended (opening.Data width) q n ts = refl

module _ (d : Drafting) (n : ℕ) (keeps : IsDrafting d) where
  -- a label of a packed switch
  pub adds_target : (first : ℤ) (name : Text) (labels : Vec Text Global) → d.context.block ≡ Some (opening.Packed first) → labels.items ≡ d.«open».labels.items ++ name ∷ []
      → Adds d n (line.Target name) (record d { «open» = record d.«open» { labels = labels } })
  unfolding items_of catches_of targets
  adds_target first name labels inside more = record {
    drafting = record { registers = keeps.registers; width = keeps.width; items = keeps.items; payload = rw inside (rw inside at keeps.payload) };
    context = refl;
    items = λ ts. rw inside (ap (λ l. d.items.items ++ record { line = d.«open».line; what = what.Packed first l } ∷ [] ++ items_of ts) (pushed d.«open».labels.items name (targets ts) more));
    catches = λ ts. refl;
  }

  -- a key of a sparse switch, with its label
  pub adds_case : (key : ℤ) (name : Text) (numbers : Vec ℤ Global) (labels : Vec Text Global) → d.context.block ≡ Some opening.Sparse
      → numbers.items ≡ d.«open».keys.items ++ key ∷ [] → labels.items ≡ d.«open».labels.items ++ name ∷ []
      → Adds d n (line.Case key name) (record d { «open» = record d.«open» { labels = labels; keys = numbers } })
  unfolding items_of catches_of keys case_labels
  adds_case key name numbers labels inside more_keys more_labels =
      let same = rw inside at keeps.payload in
      record {
        drafting = record {
          registers = keeps.registers;
          width = keeps.width;
          items = keeps.items;
          payload = rw inside (ap length more_labels ∙ length-append _ (name ∷ []) ∙ ap (λ k. k + 1) same.0 ∙ sym (ap length more_keys ∙ length-append _ (key ∷ [])), same.1);
        };
        context = refl;
        items = λ ts. rw inside
            (ap (λ k. d.items.items ++ record { line = d.«open».line; what = what.Sparse k (labels.items ++ case_labels ts) } ∷ [] ++ items_of ts) (pushed d.«open».keys.items key (keys ts) more_keys)
            ∙ ap (λ l. d.items.items ++ record { line = d.«open».line; what = what.Sparse (d.«open».keys.items ++ key ∷ keys ts) l } ∷ [] ++ items_of ts) (pushed d.«open».labels.items name (case_labels ts) more_labels));
        catches = λ ts. refl;
      }

  -- elements of an array
  pub adds_elements : (width : ℕ) (zs : List ℤ) (bytes : Vec ℕ Global) → d.context.block ≡ Some (opening.Data width) → bytes.items ≡ d.«open».bytes.items ++ flat_map (element_bytes width) zs
      → Adds d n (line.Elements zs) (record d { «open» = record d.«open» { bytes = bytes } })
  unfolding items_of catches_of data_bytes
  adds_elements width zs bytes inside more =
      let has = rw inside at keeps.width in
      let whole = rw inside at keeps.payload in
      let elements = flat_map (element_bytes width) zs in
      record {
        drafting = record {
          registers = keeps.registers;
          width = keeps.width;
          items = keeps.items;
          payload = rw inside (whole.0, whole.1, ap (λ l. length l % width) more ∙ elements_whole d.«open».bytes.items width zs has whole.2);
        };
        context = refl;
        items = λ ts. rw inside (ap (λ b. d.items.items ++ record { line = d.«open».line; what = what.Data width b } ∷ [] ++ items_of ts) (ap (λ b. b ++ data_bytes width ts) more ∙ append_assoc d.«open».bytes.items elements (data_bytes width ts)));
        catches = λ ts. refl;
      }

  -- the last line of a payload, which is an item as it stands
  pub adds_end : (o : Opening) (items : Vec Item Global) (q : Open) → d.context.block ≡ Some o → q.labels.items ≡ [] → q.keys.items ≡ [] → q.bytes.items ≡ []
      → items.items ≡ d.items.items ++ record { line = d.«open».line; what = payload_with o d.«open» [] } ∷ []
      → Adds d n line.End (record d { context = record d.context { block = None }; «open» = q; items = items })
  unfolding items_of catches_of
  adds_end o items q inside labels keys bytes more =
      let has = rw inside at keeps.width in
      let payload = rw inside at keeps.payload in
      let i : Item = record { line = d.«open».line; what = payload_with o d.«open» [] } in
      record {
        drafting = record { registers = keeps.registers; width = tt; items = formed_more _ _ i more keeps.items (open_formed o d.«open» has payload); payload = (labels, keys, bytes) };
        context = refl;
        items = λ ts. rw inside
            (ap (λ l. l ++ items_of ts) (append-nil items.items ∙ more)
            ∙ ap (λ w. d.items.items ++ record { line = d.«open».line; what = w } ∷ [] ++ items_of ts) (ended o d.«open» n ts));
        catches = λ ts. refl;
      }
