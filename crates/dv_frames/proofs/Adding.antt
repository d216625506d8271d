-- Levels added to the arena.
use Rattle.std.proofs.Common.{◌≡◌, ℕ, ◌+◌, ◌<◌, ◌≤◌, List, [], ◌∷◌, ◌++◌, length, reverse, refl, sym, ap, ◌∙◌, subst, arith, length-append}
use Rattle.std.specs.Prelude.{Bool}
use Rattle.std.proofs.lemmas.List.{take_at}
use Rattle.dv_defs.specs.declared.names.ClassId.{ClassId}
use Rattle.dv_frames.specs.declared.heads.Head.{Head}
use Rattle.dv_frames.specs.declared.levels.Level.{Level}
use Rattle.dv_frames.specs.declared.levels.Level.TheVariants as level
use Rattle.dv_frames.specs.Arena.{AreLaid, IsArena}
use Rattle.dv_frames.proofs.Cutting.{reverse_on}

-- words added at the end lie above the base of a new frame
laid_on : (ls : List Level) (ws zs : List ℕ) (h : Head) → AreLaid ls ws → AreLaid (level.Code h (length ws) ∷ ls) (ws ++ zs)
laid_on ls ws zs h l = (omega (arith, length-append ws zs), rw (take_at ws zs (length ws) refl) l)

pub frame_added : (ks ls : List Level) (vs ws zs : List ℕ) (h : Head) (b rk rl rv ru ml mw : ℕ) → IsArena ks vs rk rv ml mw → length ks < ml → length zs + length vs ≤ mw → b ≡ length vs → ls ≡ ks ++ level.Code h b ∷ [] → ws ≡ vs ++ zs → rk ≤ rl → rv ≤ ru → IsArena ls ws rl ru ml mw
frame_added ks ls vs ws zs h b rk rl rv ru ml mw a p q base f g i j =
    record {
      laid = laid;
      few_levels = omega (arith, ap length f, length-append ks (level.Code h b ∷ []));
      few_words = omega (arith, ap length g, length-append vs zs);
      counted = a.counted;
      level_room = omega (arith, a.level_room);
      word_room = omega (arith, a.word_room);
    }
  where
    top : reverse ls ≡ level.Code h (length vs) ∷ reverse ks
    top = ap reverse f ∙ reverse_on ks (level.Code h b) ∙ ap (λ (n : ℕ). level.Code h n ∷ reverse ks) base

    laid : AreLaid (reverse ls) ws
    laid =
        let P : List Level → Type 0 = λ rs. AreLaid rs ws in
        let Q : List ℕ → Type 0 = λ us. AreLaid (level.Code h (length vs) ∷ reverse ks) us in
        subst P (sym top) (subst Q (sym g) (laid_on (reverse ks) vs zs h a.laid))

pub record_added : (ks ls : List Level) (ws : List ℕ) (c : ClassId) (r : Bool) (rk rl ru ml mw : ℕ) → IsArena ks ws rk ru ml mw → length ks < ml → ls ≡ ks ++ level.Init c r ∷ [] → rk ≤ rl → IsArena ls ws rl ru ml mw
record_added ks ls ws c r rk rl ru ml mw a p f i =
    record {
      laid = (let P : List Level → Type 0 = λ rs. AreLaid rs ws in subst P (sym (ap reverse f ∙ reverse_on ks (level.Init c r))) a.laid);
      few_levels = omega (arith, ap length f, length-append ks (level.Init c r ∷ []));
      few_words = a.few_words;
      counted = a.counted;
      level_room = omega (arith, a.level_room);
      word_room = a.word_room;
    }
