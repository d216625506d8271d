-- The instruction at which the frame on top goes on, and the address after it.
use Rattle.std.proofs.Common.{◌≡◌, ◌∙◌, ◌+◌, ◌≤◌, ℕ, zero, suc, List, [], ◌∷◌, length, take, drop, true, map, Some, refl, sym, ap, arith}
use Rattle.std.proofs.lemmas.Option.{same_Some}
use Rattle.dv_defs.specs.declared.code.Insn.{Insn}
use Rattle.dv_defs.specs.Decoding.{insn_here}
use Rattle.dv_defs.specs.Formats.{size_at, size_by}
use Rattle.dv_defs.specs.Op.{Code, Invoke, Op, code_at, named_registers}
use Rattle.dv_defs.specs.Parts.{Call}
use Rattle.dv_defs.specs.Pools.{Method}
use Rattle.dv_defs.specs.Spelling.{all_fit, spelling}
use Rattle.dv_defs.proofs.DecodingLaws.{insn_here_spelled}
use Rattle.dv_defs.proofs.SpellingFormats.{begins}
use Rattle.dv_defs.proofs.SpellingLaws.{spelled_in}
use Rattle.dv_units.proofs.Decoding.{fit_from}
use Rattle.dv_words.specs.declared.state.Level.{Level}
use Rattle.dv_words.specs.Stacks.{arg_words, first, top_regs}
use Rattle.dv_words.specs.State.{WordStack}
use Rattle.dv_words.specs.Words.{word_at}
use Rattle.dv_frames.specs.declared.heads.Head.{Head}
use Rattle.dv_frames.specs.Heads.{head_in}
use Rattle.dv_frames.specs.Tops.{head_of}
use Rattle.dv_words.specs.Answering.{IsAtInsn, IsStackOf}
use Rattle.dv_words.specs.Local.{reg_word}
use Rattle.dv_words.specs.Steps.{At}
use Rattle.law_words.proofs.Fetching.{is_fetched}
use Rattle.dv_builtin.proofs.Invokes.{passed}

-- ---- the instruction that is spelled there

size_spelled : (i : Insn) (us : List ℕ) → spelling i ≡ Some us → length us ≡ size_at i.op
size_spelled i us e = let (f, s) = spelled_in i us e in (begins f i us s.units).0 ∙ sym (ap size_by s.format)

taken : (n : ℕ) (us : List ℕ) → n ≤ length us → length (take n us) ≡ n
taken zero us l = refl
taken (suc n) [] l = absurd (omega (arith, l))
taken (suc n) (u ∷ us) l = ap suc (taken n us (omega (arith, l)))

size_here : (us : List ℕ) (i : Insn) (n : ℕ) → all_fit 16 us ≡ true → insn_here us ≡ Some (record { insn = i; size = n }) → n ≡ size_at i.op
size_here us i n fit e =
    let (few, is) = insn_here_spelled us i n fit e in
    sym (taken n us few) ∙ size_spelled i (take n us) is

-- ---- what a call finds there

module _ (h : At) (stack : WordStack) (insn : Insn) (op : Op) (is : IsStackOf stack h) (at : IsAtInsn h insn op) where
  pub head_there : (head : Head) → Some head ≡ head_of (first stack.levels) → head ≡ head_in h.frame
  head_there head e = same_Some head (head_in h.frame) (e ∙ ap (λ (ls : List Level). head_of (first ls)) is.levels)

  pub code_there : (head : Head) (own : Code) → Some head ≡ head_of (first stack.levels) → Some own ≡ code_at h.image head.method.0 → own ≡ at.code
  code_there head own e has = same_Some own at.code (has ∙ ap (λ (x : Head). code_at h.image x.method.0) (head_there head e) ∙ at.has_code)

  pub next_there : all_fit 16 at.code.body.units ≡ true → h.next ≡ h.frame.at + size_at insn.op
  next_there fits =
      let there = is_fetched h.image at.code h.frame.at insn at.size (record { op = op; next = h.next }) h.frame.method.0 at.has_code at.fetched at.spelled in
      let size = size_here (drop h.frame.at at.code.body.units) insn at.size (fit_from h.frame.at at.code.body.units fits) at.spelled in
      there.next ∙ ap (λ (n : ℕ). h.frame.at + n) size

-- ---- an invoke

module _ (h : At) (stack : WordStack) (insn : Insn) (call : Call) (ks : List ℕ) (m : Method) (is : IsStackOf stack h) (at : IsAtInsn h insn (Invoke call ks m)) where
  pub args_are : map (reg_word h.frame) ks ≡ arg_words stack insn.regs
  args_are =
      let there = is_fetched h.image at.code h.frame.at insn at.size (record { op = Invoke call ks m; next = h.next }) h.frame.method.0 at.has_code at.fetched at.spelled in
      let names = passed insn h.image at.code h.frame.at call ks m there.op in
      ap (map (reg_word h.frame)) names ∙ ap (λ (ls : List Level). map (word_at (top_regs ls)) (named_registers insn.regs)) (sym is.levels)
