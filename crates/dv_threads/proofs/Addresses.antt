-- The address after the instruction at which a frame goes on.
use Rattle.std.proofs.Common.{◌≡◌, ℕ, zero, suc, ◌+◌, ◌<◌, ◌≤◌, List, [], ◌∷◌, length, drop, take, true, Some, refl, sym, ap, ◌∙◌, arith, length-drop}
use Rattle.std.proofs.lemmas.Option.{same_Some}
use Rattle.dv_defs.specs.declared.code.Insn.{Insn}
use Rattle.dv_defs.specs.Decoding.{insn_here}
use Rattle.dv_defs.specs.Formats.{size_at, size_by}
use Rattle.dv_defs.specs.Images.{Image}
use Rattle.dv_defs.specs.Op.{Code, Op, code_at}
use Rattle.dv_defs.specs.Spelling.{all_fit, spelling}
use Rattle.dv_defs.proofs.DecodingLaws.{insn_here_spelled}
use Rattle.dv_defs.proofs.SpellingFormats.{begins}
use Rattle.dv_defs.proofs.SpellingLaws.{spelled_in}
use Rattle.dv_units.proofs.Decoding.{fit_from}
use Rattle.dv_words.specs.Stacks.{first}
use Rattle.dv_words.specs.State.{WordStack}
use Rattle.dv_frames.specs.declared.heads.Head.{Head}
use Rattle.dv_frames.specs.Heads.{head_in}
use Rattle.dv_frames.specs.Tops.{head_of}
use Rattle.dv_words.specs.Answering.{IsAtInsn, IsStackOf}
use Rattle.dv_words.specs.Fetching.{IsFetched}
use Rattle.dv_words.specs.Steps.{At}
use Rattle.law_words.proofs.Fetching.{is_fetched}

size_spelled : (i : Insn) (us : List ℕ) → spelling i ≡ Some us → length us ≡ size_at i.op
size_spelled i us e = let (f, s) = spelled_in i us e in (begins f i us s.units).0 ∙ sym (ap size_by s.format)

taken : (n : ℕ) (us : List ℕ) → n ≤ length us → length (take n us) ≡ n
taken zero us l = refl
taken (suc n) [] l = absurd (omega (arith, l))
taken (suc n) (u ∷ us) l = ap suc (taken n us (omega (arith, l)))

size_here : (us : List ℕ) (i : Insn) (n : ℕ) → all_fit 16 us ≡ true → insn_here us ≡ Some (record { insn = i; size = n }) → n ≡ size_at i.op
size_here us i n fit e =
    let (few, is) = insn_here_spelled us i n fit e in
    sym (taken n us few) ∙ size_spelled i (take n us) is

some_here : (us : List ℕ) (i : Insn) (n : ℕ) → insn_here us ≡ Some (record { insn = i; size = n }) → 0 < length us
some_here [] i n e = absurd (cc e)
some_here (u ∷ us) i n e = omega arith

module _ (h : At) (insn : Insn) (o : Op) (at : IsAtInsn h insn o) where
  -- the instruction is the one that is fetched there
  pub fetched : IsFetched h.image at.code h.frame.at insn at.size (record { op = o; next = h.next })
  fetched = is_fetched h.image at.code h.frame.at insn at.size (record { op = o; next = h.next }) h.frame.method.0 at.has_code at.fetched at.spelled

  pub inside : h.frame.at < length at.code.body.units
  inside =
      let some = some_here (drop h.frame.at at.code.body.units) insn at.size at.spelled in
      omega (arith, some, length-drop h.frame.at at.code.body.units)

  pub next_is : all_fit 16 at.code.body.units ≡ true → h.next ≡ h.frame.at + size_at insn.op
  next_is fits =
      let fit = fit_from h.frame.at at.code.body.units fits in
      fetched.next ∙ ap (λ (n : ℕ). h.frame.at + n) (size_here (drop h.frame.at at.code.body.units) insn at.size fit at.spelled)

  module _ (stack : WordStack) (is : IsStackOf stack h) where
    pub top_head : head_of (first stack.levels) ≡ Some (head_in h.frame)
    top_head = ap (λ ls. head_of (first ls)) is.levels

    pub head_is : (head : Head) → Some head ≡ head_of (first stack.levels) → head ≡ head_in h.frame
    head_is head e = same_Some head (head_in h.frame) (e ∙ top_head)

    module _ (image : Image) (same : h.image ≡ image) where
      pub top_code : code_at image h.frame.method.0 ≡ Some at.code
      top_code = ap (λ i. code_at i h.frame.method.0) (sym same) ∙ at.has_code

      pub code_is : (head : Head) (own : Code) → head ≡ head_in h.frame → Some own ≡ code_at image head.method.0 → own ≡ at.code
      code_is head own top has = same_Some own at.code (has ∙ (ap (λ (x : Head). code_at image x.method.0) top ∙ top_code))
