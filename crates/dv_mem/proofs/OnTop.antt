-- What the instruction at which the frame on top goes on means.
use Rattle.std.proofs.Common.{◌≡◌, ℕ, ◌+◌, ◌/◌, ◌<◌, ◌≤◌, List, [], ◌∷◌, zero, suc, length, drop, take, Bool, true, false, Option, Some, None, Result, Ok, Err, refl, sym, ap, ◌∙◌, arith, length-drop}
use Rattle.std.specs.Prelude.{◌||◌, not}
use Rattle.std.proofs.lemmas.Option.{same_Some}
use Rattle.dv_defs.specs.declared.code.Insn.{Insn}
use Rattle.dv_defs.specs.declared.faults.Rule.{Rule}
use Rattle.dv_defs.specs.Decoding.{insn_here}
use Rattle.dv_defs.specs.Formats.{size_at, size_by}
use Rattle.dv_defs.specs.Images.{Image}
use Rattle.dv_defs.specs.Op as def
use Rattle.dv_defs.specs.declared.code.Payload.{Payload}
use Rattle.dv_defs.specs.declared.code.Payload.TheVariants as payload
use Rattle.dv_defs.specs.Families.{Family, family_at}
use Rattle.dv_defs.specs.Numbers.{elements, jump}
use Rattle.dv_defs.specs.Tiling.{payload_at}
use Rattle.dv_defs.specs.Op.{Code, Resolved, cases_packed, cases_sparse, code_at, fill_op, op_of, packed_op, resolve_by, sparse_op}
use Rattle.dv_defs.specs.Spelling.{all_fit, spelling}
use Rattle.dv_typing.specs.Statics.{At}
use Rattle.dv_defs.proofs.DecodingLaws.{insn_here_spelled}
use Rattle.dv_defs.proofs.SpellingFormats.{begins}
use Rattle.dv_defs.proofs.SpellingLaws.{spelled_in}
use Rattle.dv_ops.proofs.Fetched.{payload_there}
use Rattle.dv_units.proofs.Decoding.{fit_from}
use Rattle.dv_ops.specs.declared.op.Op.{Op}
use Rattle.dv_ops.specs.declared.op.Op.TheVariants as op_is
use Rattle.dv_ops.specs.Meaning.{has_payload, meant, meant_or_rule}
use Rattle.dv_words.specs.declared.state.Frame.{Frame}
use Rattle.dv_words.specs.declared.state.Level.{Level}
use Rattle.dv_words.specs.declared.state.Level.TheVariants as level
use Rattle.dv_words.specs.Stacks.{first}
use Rattle.dv_words.specs.State.{WordStack}
use Rattle.dv_frames.specs.declared.heads.Head.{Head}
use Rattle.dv_frames.specs.Heads.{head_in}
use Rattle.dv_frames.specs.Tops.{head_of}
use Rattle.law_words.proofs.Fetching.{is_fetched}
use Rattle.dv_mem.specs.Stepping.{GoesOnAt, IsMeant, IsOnTop, is_fill, is_mem, is_with_payload}
use Rattle.dv_mem.specs.Tops.{frame_in, top_frame}

-- ---- the frame on top

-- a level that is code
pub record IsCodeOf (o : Option Level) (h : Head) : Type 0 where
  pub frame : Frame
  pub is : o ≡ Some (level.Code frame)
  pub same : h ≡ head_in frame

pub code_of_head : (o : Option Level) (h : Head) → Some h ≡ head_of o → IsCodeOf o h
code_of_head (Some (level.Code f)) h e = record { frame = f; is = refl; same = same_Some h (head_in f) e }
code_of_head (Some (level.Init c r)) h e = absurd (cc e)
code_of_head None h e = absurd (cc e)

frame_first : (ls : List Level) (s : Frame) → first ls ≡ Some (level.Code s) → frame_in ls ≡ s
frame_first [] s e = absurd (cc e)
frame_first (l ∷ ls) s e = by l (same_Some l (level.Code s) e)
  where
    by : (l : Level) → l ≡ level.Code s → frame_in (l ∷ ls) ≡ s
    by (level.Code f) e = cc e
    by (level.Init c r) e = absurd (cc e)

pub frame_is : (stack : WordStack) (s : Frame) → first stack.levels ≡ Some (level.Code s) → top_frame stack ≡ s
frame_is stack s e = frame_first stack.levels s e

-- what the head on top and the method's code say of the frame
pub record Agrees (h : Head) (own : Code) (s : Frame) (code : Code) : Type 0 where
  pub same_head : h ≡ head_in s
  pub same_code : own ≡ code

pub agrees : (image : Image) (stack : WordStack) (h : Head) (own : Code) (s : Frame) (code : Code) → Some h ≡ head_of (first stack.levels) → Some own ≡ code_at image h.method.0 → first stack.levels ≡ Some (level.Code s) → code_at image s.method.0 ≡ Some code → Agrees h own s code
agrees image stack h own s code is has on_top has_code =
    let same : h ≡ head_in s = same_Some h (head_in s) (is ∙ ap head_of on_top) in
    record { same_head = same; same_code = same_Some own code (has ∙ ap (λ (x : Head). code_at image x.method.0) same ∙ has_code) }

-- ---- the instruction that is spelled there

size_spelled : (i : Insn) (us : List ℕ) → spelling i ≡ Some us → length us ≡ size_at i.op
size_spelled i us e = let (f, s) = spelled_in i us e in (begins f i us s.units).0 ∙ sym (ap size_by s.format)

taken : (n : ℕ) (us : List ℕ) → n ≤ length us → length (take n us) ≡ n
taken zero us l = refl
taken (suc n) [] l = absurd (omega (arith, l))
taken (suc n) (u ∷ us) l = ap suc (taken n us (omega (arith, l)))

size_here : (us : List ℕ) (i : Insn) (n : ℕ) → all_fit 16 us ≡ true → insn_here us ≡ Some (record { insn = i; size = n }) → n ≡ size_at i.op
size_here us i n fit e =
    let (few, is) = insn_here_spelled us i n fit e in
    sym (taken n us few) ∙ size_spelled i (take n us) is

some_here : (us : List ℕ) (i : Insn) (n : ℕ) → insn_here us ≡ Some (record { insn = i; size = n }) → 0 < length us
some_here [] i n e = absurd (cc e)
some_here (u ∷ us) i n e = omega arith

-- what is fetched is what the instruction means, and where the next one stands
pub record IsMeantAt (image : Image) (stack : WordStack) (insn : Insn) (s : Frame) (x : At) : Type 0 where
  pub meant : IsMeant image stack insn s x.op
  pub next : x.next ≡ s.at + size_at insn.op

pub goes_on : (image : Image) (stack : WordStack) (insn : Insn) (s : Frame) (x : At) → ((code : Code) → code_at image s.method.0 ≡ Some code → all_fit 16 code.body.units ≡ true) → GoesOnAt image stack insn s x → IsMeantAt image stack insn s x
goes_on image stack insn s x fits g =
    let fit = fit_from s.at g.code.body.units (fits g.code g.has_code) in
    let there = is_fetched image g.code s.at insn g.size x s.method.0 g.has_code g.fetched g.spelled in
    let some = some_here (drop s.at g.code.body.units) insn g.size g.spelled in
    record {
      meant = record {
        code = g.code;
        on_top = record { on_top = g.on_top; has_code = g.has_code; within = omega (arith, some, length-drop s.at g.code.body.units) };
        means = there.op;
      };
      next = there.next ∙ ap (λ (n : ℕ). s.at + n) (size_here (drop s.at g.code.body.units) insn g.size fit g.spelled);
    }

-- ---- what it means

pub meant_there : (image : Image) (code : Code) (at : ℕ) (insn : Insn) (op : def.Op) (r : Result Op Rule) → (has_payload code at insn ≡ true → meant_or_rule code at r ≡ op_of image code at insn) → op_of image code at insn ≡ Ok op → meant_or_rule code at r ≡ Ok op
meant_there image code at insn op r resolves means = resolves (payload_there image code at insn op means) ∙ means

pub op_meant : (code : Code) (at : ℕ) (o : Op) (op : def.Op) → meant_or_rule code at (Ok o) ≡ Ok op → meant code at o ≡ op
op_meant code at o op e = let whole : (let r : Resolved = Ok (meant code at o) in r) ≡ Ok op = e in cc whole

pub no_rule : (code : Code) (at : ℕ) (broken : Rule) (op : def.Op) → meant_or_rule code at (Err broken) ≡ Ok op → ⊥
no_rule code at broken op e = absurd (let whole : (let r : Resolved = Err broken in r) ≡ Ok op = e in cc whole)

-- ---- instructions with a payload

switch_no_mem : (at a : ℕ) (op : def.Op) (p : Option Payload) → packed_op at a p ≡ Ok op → is_mem op ≡ true → ⊥
switch_no_mem at a op (Some (payload.Packed k ts)) e mem = let whole : (let r : Resolved = Ok (def.Switch a (cases_packed at k ts)) in r) ≡ Ok op = e in let same : def.Switch a (cases_packed at k ts) ≡ op = cc whole in absurd (let never : false ≡ true = ap is_mem same ∙ mem in cc never)
switch_no_mem at a op None e mem = absurd (cc e)
switch_no_mem at a op (Some (payload.Sparse ks ts)) e mem = absurd (cc e)
switch_no_mem at a op (Some (payload.Data w bs)) e mem = absurd (cc e)

sparse_no_mem : (at a : ℕ) (op : def.Op) (p : Option Payload) → sparse_op at a p ≡ Ok op → is_mem op ≡ true → ⊥
sparse_no_mem at a op (Some (payload.Sparse ks ts)) e mem = let whole : (let r : Resolved = Ok (def.Switch a (cases_sparse at ks ts)) in r) ≡ Ok op = e in let same : def.Switch a (cases_sparse at ks ts) ≡ op = cc whole in absurd (let never : false ≡ true = ap is_mem same ∙ mem in cc never)
sparse_no_mem at a op None e mem = absurd (cc e)
sparse_no_mem at a op (Some (payload.Packed k ts)) e mem = absurd (cc e)
sparse_no_mem at a op (Some (payload.Data w bs)) e mem = absurd (cc e)

abbrev is_fill_op : def.Op → Bool
is_fill_op (def.Fill a w ns) = true
is_fill_op op = false

fill_fills : (a : ℕ) (op : def.Op) (p : Option Payload) → fill_op a p ≡ Ok op → is_fill_op op ≡ true
fill_fills a op (Some (payload.Data w bs)) e = let whole : (let r : Resolved = Ok (def.Fill a w (elements (length bs / w) w bs)) in r) ≡ Ok op = e in let same : def.Fill a w (elements (length bs / w) w bs) ≡ op = cc whole in sym (ap is_fill_op same)
fill_fills a op None e = absurd (cc e)
fill_fills a op (Some (payload.Packed k ts)) e = absurd (cc e)
fill_fills a op (Some (payload.Sparse ks ts)) e = absurd (cc e)

payload_fills : (f : Option Family) (image : Image) (code : Code) (at : ℕ) (i : Insn) (op : def.Op) → is_with_payload f ≡ true → resolve_by image code at i f ≡ Ok op → is_mem op ≡ true → is_fill_op op ≡ true
payload_fills (Some Family.PackedSwitch) image code at i op has e mem = absurd (switch_no_mem at (def.reg i 0) op (payload_at code.tiles (jump at i.off)) e mem)
payload_fills (Some Family.SparseSwitch) image code at i op has e mem = absurd (sparse_no_mem at (def.reg i 0) op (payload_at code.tiles (jump at i.off)) e mem)
payload_fills (Some Family.FillArrayData) image code at i op has e mem = fill_fills (def.reg i 0) op (payload_at code.tiles (jump at i.off)) e
payload_fills f image code at i op has e mem = absurd (cc has)

meant_fill : (code : Code) (at : ℕ) (o : Op) → is_fill_op (meant code at o) ≡ true → is_fill o ≡ true
meant_fill code at (op_is.Fill a to) e = refl
meant_fill code at o e = absurd (cc e)

either : (a b : Bool) → (not a || b) ≡ false → (a ≡ true) × (b ≡ false)
either true b e = (refl, e)
either false b e = absurd (cc e)

-- an operation that is done here is the one that the opcode's family gives
pub may_be_it : (image : Image) (code : Code) (at : ℕ) (i : Insn) (o : Op) (op : def.Op) → (not (is_with_payload (family_at i.op)) || is_fill o) ≡ false → op_of image code at i ≡ Ok op → meant code at o ≡ op → is_mem op ≡ true → ⊥
may_be_it image code at i o op may means is mem =
    let parts = either (is_with_payload (family_at i.op)) (is_fill o) may in
    let fills = payload_fills (family_at i.op) image code at i op parts.0 means mem in
    let fill = meant_fill code at o (ap is_fill_op is ∙ fills) in
    absurd (let both : true ≡ false = sym fill ∙ parts.1 in cc both)

-- ---- from the head and the code that were read

module _ (image : Image) (stack : WordStack) (insn : Insn) (h : Head) (own : Code) (is : Some h ≡ head_of (first stack.levels)) (has : Some own ≡ code_at image h.method.0) where
  pub fits_all : all_fit 16 own.body.units ≡ true → (s : Frame) → first stack.levels ≡ Some (level.Code s) → (code : Code) → code_at image s.method.0 ≡ Some code → all_fit 16 code.body.units ≡ true
  fits_all fit s on_top code has_code =
      let same = (agrees image stack h own s code is has on_top has_code).same_code in
      ap (λ (c : Code). all_fit 16 c.body.units) (sym same) ∙ fit

  pub means_own : (s : Frame) (op : def.Op) → IsMeant image stack insn s op → op_of image own h.at insn ≡ Ok op
  means_own s op m =
      let same = agrees image stack h own s m.code is has m.on_top.on_top m.on_top.has_code in
      ap (λ (x : Head). op_of image own x.at insn) same.same_head ∙ ap (λ (c : Code). op_of image c s.at insn) same.same_code ∙ m.means

  pub frame_on_top : IsCodeOf (first stack.levels) h
  frame_on_top = code_of_head (first stack.levels) h is

  pub on_top_own : h.at < length own.body.units → IsOnTop stack image frame_on_top.frame own
  on_top_own within =
      record {
        on_top = frame_on_top.is;
        has_code = ap (λ (x : Head). code_at image x.method.0) (sym frame_on_top.same) ∙ sym has;
        within = omega (arith, within, ap (λ (x : Head). x.at) frame_on_top.same);
      }

  pub means_there : (o : Op) → meant_or_rule own h.at (Ok o) ≡ op_of image own h.at insn → op_of image own frame_on_top.frame.at insn ≡ Ok (meant own h.at o)
  means_there o e = ap (λ (x : Head). op_of image own x.at insn) (sym frame_on_top.same) ∙ sym e

  pub payload_here : has_payload own frame_on_top.frame.at insn ≡ true → has_payload own h.at insn ≡ true
  payload_here p = ap (λ (x : Head). has_payload own x.at insn) frame_on_top.same ∙ p
