use Rattle.std.proofs.Common.{◌≡◌, ◌∙◌, ℕ, List, length, sym, ap, subst, arith}
use Rattle.std.specs.List.{refill}
use Rattle.std.proofs.lemmas.Grind.{common_steps}
use Rattle.dv_frames.specs.declared.heads.Head.{Head}
use Rattle.dv_frames.specs.Heads.{frame, head_in}
use Rattle.dv_words.specs.Stepping.{RanLocally}
use Rattle.dv_words.specs.declared.state.Frame.{Frame}
use Rattle.dv_local.specs.Units.{HasUnits}
use Rattle.dv_local.proofs.NoCode.{no_run}
use Rattle.dv_local.proofs.frames.run_frame.Goals as goal

pub returns-in_default : goal.returns-in_default
returns-in_default c = no_run c.args.image.now c.args.most c.args.frame.now c.in_default.ensures.units

-- as many words as there were
refilled : (xs ws : List ℕ) → length ws ≡ length xs → refill (length xs) xs ws ≡ ws
refilled xs ws e = grind (arith, common_steps, e)

pub returns : goal.returns
returns c =
    let start : frame c.head_of-head.result c.items_mut.result.now ≡ c.args.frame.now =
    ap (λ (h : Head). frame h c.items_mut.result.now) c.head_of-head.ensures ∙ ap (frame (head_in c.args.frame.now)) c.items_mut.ensures.value in
    let words = refilled c.args.frame.now.regs c.run-done.new.words (c.run-done.auto.words ∙ ap (λ (ws : List ℕ). length ws) c.items_mut.ensures.value) in
    let end : c.set_head.new.frame ≡ frame c.run-done.new.head c.run-done.new.words = c.set_head.ensures ∙ ap (frame c.run-done.new.head) words in
    let units : HasUnits c.args.image.now c.head_of-head.result.method.0 c.in-Some.units.now =
    subst (λ (h : Head). HasUnits c.args.image.now h.method.0 c.in-Some.units.now) (sym c.head_of-head.ensures) c.in-Some.ensures.units in
    let From : Frame → Type 0 = λ f. RanLocally c.args.image.now c.args.most c.run-done.result f c.set_head.new.frame in
    let To : Frame → Type 0 = λ f. RanLocally c.args.image.now c.args.most c.run-done.result (frame c.head_of-head.result c.items_mut.result.now) f in
    subst From start (subst To (sym end) (c.run-done.ensures.ran c.args.image.now units))
