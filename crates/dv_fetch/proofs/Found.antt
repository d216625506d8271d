-- The instruction that is read where the frame on top goes on is the one that is fetched there.
use Rattle.std.proofs.Common.{◌≡◌, ◌∙◌, ◌+◌, ◌<◌, ℕ, zero, suc, List, [], ◌∷◌, drop, length, true, Some, None, Result, Ok, Err, sym, ap, subst, arith, length-drop}
use Rattle.std.specs.Prelude.{slice_get}
use Rattle.std.proofs.lemmas.Option.{same_Some}
use Rattle.dv_defs.specs.declared.code.Insn.{Insn}
use Rattle.dv_defs.specs.declared.faults.Rule.{Rule}
use Rattle.dv_defs.specs.Decoding.{Sized, insn_here}
use Rattle.dv_defs.specs.Images.{Image}
use Rattle.dv_defs.specs.Op.{Code, Resolved, code_at, op_of}
use Rattle.dv_typing.specs.Statics as statics
use Rattle.dv_typing.specs.Statics.{fetch}
use Rattle.dv_defs.specs.Tiling.{tiles_in, tiling}
use Rattle.dv_ops.proofs.Fetched.{payload_there}
use Rattle.dv_ops.specs.declared.op.Op.{Op}
use Rattle.dv_ops.specs.Meaning.{has_payload, meant, meant_or_rule}
use Rattle.dv_words.specs.declared.state.Level.{Level}
use Rattle.dv_words.specs.Stacks.{first}
use Rattle.dv_words.specs.State.{WordStack, WordThread}
use Rattle.dv_frames.specs.declared.heads.Head.{Head}
use Rattle.dv_frames.specs.Heads.{head_in}
use Rattle.dv_frames.specs.Tops.{head_of}
use Rattle.law_words.proofs.Fetching.{is_fetched, is_read}
use Rattle.dv_words.specs.Answering.{IsStackOf}
use Rattle.dv_words.specs.Fetching.{IsFetched, IsThere}
use Rattle.dv_words.specs.Steps.{At}
use Rattle.dv_fetch.proofs.Bodiless.{no_code}
use Rattle.dv_fetch.specs.declared.instruction.Instruction.{Instruction}
use Rattle.dv_fetch.specs.Spelled.{IsRead, Spells}
use Rattle.dv_fetch.specs.Standing.{IsAtOp, IsFound}

some_here : (us : List ℕ) (i : Insn) (n : ℕ) → insn_here us ≡ Some (record { insn = i; size = n }) → 0 < length us
some_here [] i n e = absurd (cc e)
some_here (u ∷ us) i n e = omega arith

module _ (image : Image) (stack : WordStack) (own : WordThread) (h : At) (x : statics.At) (same : h.image ≡ image) (is : IsStackOf stack h) (at : IsAtOp own h x) where
  top_head : head_of (first stack.levels) ≡ Some (head_in h.frame)
  top_head = ap (λ (ls : List Level). head_of (first ls)) is.levels

  pub no_head : None ≡ head_of (first stack.levels) → ⊥
  no_head none = absurd (let whole : None ≡ Some (head_in h.frame) = none ∙ top_head in cc whole)

  module _ (head : Head) (has : Some head ≡ head_of (first stack.levels)) where
    same_head : head ≡ head_in h.frame
    same_head = same_Some head (head_in h.frame) (has ∙ top_head)

    fetched_there : fetch image head.method.0 head.at ≡ Some x
    fetched_there = (λ j. fetch (sym same j) (same_head j).method.0 (same_head j).at) ∙ at.fetched

    pub some_code : None ≡ code_at image head.method.0 → ⊥
    some_code none = no_code image head.method.0 head.at x (sym none) fetched_there

    module _ (code : Code) (has_code : Some code ≡ code_at image head.method.0) where
      there : IsThere code.body.units head.at x
      there = is_read image code head.at x head.method.0 (sym has_code) fetched_there

      pub inside : head.at < length code.body.units
      inside =
          let some = some_here (drop head.at code.body.units) there.insn there.size there.read in
          omega (arith, some, length-drop head.at code.body.units)

      pub some_insn : insn_here (drop head.at code.body.units) ≡ None → ⊥
      some_insn none = absurd (let whole : None ≡ Some (let z : Sized = record { insn = there.insn; size = there.size } in z) = sym none ∙ there.read in cc whole)

      module _ (insn : Insn) (size : ℕ) (read : insn_here (drop head.at code.body.units) ≡ Some (record { insn = insn; size = size })) where
        fetched : IsFetched image code head.at insn size x
        fetched = is_fetched image code head.at insn size x head.method.0 (sym has_code) fetched_there read

        module _ (r : Result Op Rule) (resolves : has_payload code head.at insn ≡ true → meant_or_rule code head.at r ≡ op_of image code head.at insn) where
          answered : meant_or_rule code head.at r ≡ Ok x.op
          answered = resolves (payload_there image code head.at insn x.op fetched.op) ∙ fetched.op

          pub no_rule : (broken : Rule) → r ≡ Err broken → ⊥
          no_rule broken e = absurd (let whole : (let q : Resolved = Err broken in q) ≡ Ok x.op = ap (meant_or_rule code head.at) (sym e) ∙ answered in cc whole)

          pub found : (i : Instruction) → r ≡ Ok i.op → i.next ≡ head.at + size → code.tiles ≡ tiles_in (tiling i.units.now) → IsFound (Some i) h x.op
          found i e after tiled = record {
            code = code;
            at = head.at;
            tiled = tiled;
            means = let whole : (let q : Resolved = Ok (meant code head.at i.op) in q) ≡ Ok x.op = ap (meant_or_rule code head.at) (sym e) ∙ answered in cc whole;
            next = after ∙ (sym fetched.next ∙ sym at.next);
          }

      -- one that is read off its units
      pub spelled : (i : Instruction) → IsRead image code code.body.units head.at i → code.tiles ≡ tiles_in (tiling code.body.units) → IsFound (Some i) h x.op
      spelled i read tiled =
          let t = there in
          let is = read.spells.means t.insn t.size t.read in
          let f = fetched t.insn t.size t.read in
          record {
            code = code;
            at = head.at;
            tiled = tiled ∙ ap (λ (us : List ℕ). tiles_in (tiling us)) (sym read.of);
            means = let whole : (let q : Resolved = Ok (meant code head.at i.op) in q) ≡ Ok x.op = sym is.0 ∙ f.op in cc whole;
            next = read.next ∙ (ap (λ (n : ℕ). head.at + n) (sym is.1) ∙ (sym f.next ∙ sym at.next));
          }

-- what these units spell from an address on is read there
pub read_from : (image : Image) (code : Code) (units : List ℕ) (at : ℕ) (i : Instruction) (us : List ℕ) (n : ℕ) → drop at units ≡ us → Spells image code at us i.op n → i.units.now ≡ units → i.next ≡ at + n → IsRead image code units at i
read_from image code units at i us n from spells same next = record {
  of = same;
  size = n;
  spells = let P : List ℕ → Type 0 = λ ws. Spells image code at ws i.op n in subst P (sym from) spells;
  next = next;
}

-- ---- units one by one

pub units_from : (us : List ℕ) (k u : ℕ) → slice_get us k ≡ Some u → (rest : List ℕ) × (drop k us ≡ u ∷ rest)
units_from [] k u there = absurd (cc there)
units_from (w ∷ us) zero u there = (us, ap (λ (v : ℕ). v ∷ us) (same_Some w u there))
units_from (w ∷ us) (suc k) u there = units_from us k u there

next_units : (us : List ℕ) (k j u : ℕ) (rest : List ℕ) → drop k us ≡ u ∷ rest → j ≡ k + 1 → drop j us ≡ rest
next_units [] zero j u rest e next = absurd (cc e)
next_units [] (suc k) j u rest e next = absurd (cc e)
next_units (w ∷ us) zero zero u rest e next = absurd (omega (arith, next))
next_units (w ∷ us) zero (suc j) u rest e next =
    let none : j ≡ 0 = omega (arith, next) in
    let same : us ≡ rest = cc e in
    ap (λ (m : ℕ). drop m us) none ∙ same
next_units (w ∷ us) (suc k) zero u rest e next = absurd (omega (arith, next))
next_units (w ∷ us) (suc k) (suc j) u rest e next = next_units us k j u rest e (omega (arith, next))

pub in_pair : (us : List ℕ) (k j u v : ℕ) → slice_get us k ≡ Some u → j ≡ k + 1 → slice_get us j ≡ Some v → (rest : List ℕ) × (drop k us ≡ u ∷ v ∷ rest)
in_pair us k j u v first next second =
    let one = units_from us k u first in
    let two = units_from us j v second in
    (two.0, one.1 ∙ ap (λ (ws : List ℕ). u ∷ ws) (sym (next_units us k j u one.0 one.1 next) ∙ two.1))

pub in_three : (us : List ℕ) (k j i u v w : ℕ) → slice_get us k ≡ Some u → j ≡ k + 1 → slice_get us j ≡ Some v → i ≡ j + 1 → slice_get us i ≡ Some w → (rest : List ℕ) × (drop k us ≡ u ∷ v ∷ w ∷ rest)
in_three us k j i u v w first next second after third =
    let one = units_from us k u first in
    let two = in_pair us j i v w second after third in
    (two.0, one.1 ∙ ap (λ (ws : List ℕ). u ∷ ws) (sym (next_units us k j u one.0 one.1 next) ∙ two.1))
