-- Where a method has no body nothing is fetched, and nothing is done.
use Rattle.std.proofs.Common.{◌≡◌, ℕ, List, [], ◌∷◌, false, Option, Some, None, refl, sym, ap, ◌∙◌, arith}
use Rattle.std.proofs.lemmas.Option.{same_Some}
use Rattle.dv_defs.specs.Images.{Image}
use Rattle.dv_defs.specs.Op.{code_at}
use Rattle.dv_typing.specs.Statics.{At, fetch, fetch_in}
use Rattle.dv_words.specs.Stepping.{RanLocally, StepsLocally}
use Rattle.dv_defs.specs.declared.names.MethodId.{MethodId}
use Rattle.dv_words.specs.declared.state.Frame.{Frame}
use Rattle.dv_words.specs.declared.state.Level.{Level}
use Rattle.dv_words.specs.declared.state.Level.TheVariants as level
use Rattle.dv_words.specs.Stacks.{changed, first, on_top, with_levels}
use Rattle.dv_words.specs.State.{WordStack}
use Rattle.dv_frames.specs.declared.heads.Head.{Head}
use Rattle.dv_frames.specs.Heads.{head_in}
use Rattle.dv_frames.specs.Tops.{head_of}
use Rattle.dv_local.specs.Tops.{RanTop, StepsTop, RanAtLevel, SteppedAtLevel}

nothing_fetched : (image : Image) (n at : ℕ) (x : At) → code_at image n ≡ None → fetch image n at ≡ Some x → ⊥
unfolding fetch
nothing_fetched image n at x none e = let d : None ≡ Some x = sym (ap (fetch_in image at) none) ∙ e in cc d

pub no_step : (image : Image) (s : Frame) → code_at image s.method.0 ≡ None → StepsLocally image false s s
no_step image s none = record {
  local = λ x e. absurd (nothing_fetched image s.method.0 s.at x none e);
  goes = λ x e l rise. absurd (nothing_fetched image s.method.0 s.at x none e);
  stays = λ e. refl;
}

pub no_run : (image : Image) (most : ℕ) (s : Frame) → code_at image s.method.0 ≡ None → RanLocally image most 0 s s
no_run image most s none = record {
  few = omega arith;
  local = λ k u x l rise e f. absurd (omega (arith, l));
  reached = λ rise u e. same_Some s u e;
  whole = λ l x e. absurd (nothing_fetched image s.method.0 s.at x none e);
}

-- ---- on top of a stack

same_code : (f g : Frame) → (let o : Option Level = Some (level.Code f) in o) ≡ Some (level.Code g) → f ≡ g
same_code f g e = cc

kept : (s : WordStack) (ls : List Level) (f : Frame) → s.levels ≡ ls → first ls ≡ Some (level.Code f) → s ≡ changed (λ g. f) s
kept s [] f e h = absurd (cc h)
kept s (level.Init c r ∷ ls) f e h = absurd (cc h)
kept s (level.Code g ∷ ls) f e h =
    let same : g ≡ f = same_code g f h in
    ap (with_levels s) (e ∙ ap (λ (k : Frame). level.Code k ∷ ls) same ∙ ap (on_top (λ k. f)) (sym e))

method_of : (f : Frame) (h : Head) → (let o : Option Head = Some (head_in f) in o) ≡ Some h → h.method ≡ f.method
method_of f h e = sym (ap (λ (k : Head). k.method) (same_Some (head_in f) h e))

module _ (image : Image) (s : WordStack) (h : Head) (none : code_at image h.method.0 ≡ None) where
  no_code : (f : Frame) → (let o : Option Head = Some (head_in f) in o) ≡ Some h → code_at image f.method.0 ≡ None
  no_code f e = sym (ap (λ (m : MethodId). code_at image m.0) (method_of f h e)) ∙ none

  stepped_top : (o : Option Level) → first s.levels ≡ o → head_of o ≡ Some h → SteppedAtLevel image false o s s
  stepped_top None e d = absurd (cc d)
  stepped_top (Some (level.Init c r)) e d = absurd (cc d)
  stepped_top (Some (level.Code f)) e d = record { frame = f; becomes = no_step image f (no_code f d); only_top = kept s s.levels f refl e }

  pub no_step_top : head_of (first s.levels) ≡ Some h → StepsTop image false s s
  no_step_top d = stepped_top (first s.levels) refl d

  ran_top : (most : ℕ) (o : Option Level) → first s.levels ≡ o → head_of o ≡ Some h → RanAtLevel image most 0 o s s
  ran_top most None e d = absurd (cc d)
  ran_top most (Some (level.Init c r)) e d = absurd (cc d)
  ran_top most (Some (level.Code f)) e d = record { frame = f; becomes = no_run image most f (no_code f d); only_top = kept s s.levels f refl e }

  pub no_run_top : (most : ℕ) → head_of (first s.levels) ≡ Some h → RanTop image most 0 s s
  no_run_top most d = ran_top most (first s.levels) refl d
