-- The steps of a simulation, one more at a time.
use Rattle.dary_heap_uses.proofs.Common.{All, All-contains, All-nil, All-push, All-tail, All-weaker, Change, FoldsTo, FoldsTo-push, Gets-all, IsBefore, IsMade, IsNotBefore, IsRun}
use Rattle.dary_heap_uses.proofs.Common.{IsStep, List, Loses-all, Revoke, Schedule, Step, [], all_pairs_push, ap, arith, length, length_push, refl, subst, ℕ, ◌++◌, ◌+◌, ◌∙◌, ◌∷◌, ◌≡◌, ◌≤◌}
use Rattle.dary_heap_uses.proofs.Taking.{all_left, before_up}

-- from this moment on
abbrev pub From : ℕ → ℕ × ℕ → Type 0
From now event = now ≤ event.1

-- if no change schedules anything before a moment, and no event waits for an earlier one, none does then
all_from : (now : ℕ) (changes : List Change) (old new : List (ℕ × ℕ)) → FoldsTo IsMade old changes new → All (IsNotBefore now) changes → All (From now) old → All (From now) new
all_from now [] old new same later all = subst (All (From now)) same all
all_from now (Schedule name moment ∷ changes) old new made later all = all_from now changes made.0 new made.2 (All-tail (IsNotBefore now) (Schedule name moment) changes later)
    (Gets-all (From now) name moment old made.0 made.1.0 made.1.1 (later 0 (Revoke 0) (omega arith)) all)
all_from now (Revoke name ∷ changes) old new made later all =
    all_from now changes made.0 new made.2 (All-tail (IsNotBefore now) (Revoke name) changes later) (Loses-all (From now) name old made.0 made.1.0 made.1.1 all)

module _ {H : Type 0} (handles : H → ℕ × ℕ → List Change → H → Type 0) (end : ℕ) where
  -- so many steps led here, none of them after this moment, and no event waits for an earlier one
  pub record IsRunning (handled : ℕ) (old new : List (ℕ × ℕ) × H) : Type 0 where
    pub now : ℕ
    pub steps : List Step
    pub many : length steps ≡ handled
    pub run : IsRun handles end old steps new
    pub past : All (λ step. step.event.1 ≤ now) steps
    pub waiting : All (From now) new.0

  pub none_handled : (old : List (ℕ × ℕ) × H) → IsRunning 0 old old
  none_handled old = record {
    now = 0;
    steps = [];
    many = refl;
    run = record { each = refl; forward = λ i j d lower within. absurd (omega (arith, within)) };
    past = All-nil (λ (step : Step). step.event.1 ≤ 0);
    waiting = λ k d within. omega arith;
  }

  pub one_more : (handled : ℕ) (old mid : List (ℕ × ℕ) × H) (step : Step) (new : List (ℕ × ℕ) × H) → IsRunning handled old mid → IsStep handles end step.changes mid step new →
      All (IsNotBefore step.event.1) step.changes → IsRunning (handled + 1) old new
  one_more handled old mid step new h this later =
      let now = step.event.1 in
      let up = All-contains (From h.now) mid.0 step.event h.waiting this.first.is_set in
      let past = All-weaker (λ (s : Step). s.event.1 ≤ h.now) (λ (s : Step). s.event.1 ≤ now) (λ s before. omega (arith, before, up)) h.steps h.past in
      let waiting = All-weaker (IsBefore step.event) (From now) (before_up step.event) mid.0 this.first.before in
      record {
        now = now;
        steps = h.steps ++ step ∷ [];
        many = length_push h.steps step ∙ ap (λ (n : ℕ). n + 1) h.many;
        run = record {
          each = FoldsTo-push (λ before s after. IsStep handles end s.changes before s after) old h.steps mid step new h.run.each this;
          forward = all_pairs_push (λ (a b : Step). a.event.1 ≤ b.event.1) h.steps step h.run.forward past;
        };
        past = All-push (λ (s : Step). s.event.1 ≤ now) h.steps step past (omega arith);
        waiting = all_from now step.changes this.left new.0 this.changed later (all_left (From now) mid.0 this.left step.event this.taken waiting);
      }
