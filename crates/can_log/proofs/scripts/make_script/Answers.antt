use Rattle.std.proofs.Common.{ℕ, ◌≡◌, ◌≤◌, ◌+◌, [], ◌∷◌, ◌++◌, List, length, drop, replicate, refl, sym, ap, ◌∙◌, subst, arith}
use Rattle.lift_base.specs.declared.limits.TheConstants.{MOST_FRAMES}
use Rattle.lift_model.specs.Records.{FrameData, WireWords, InputData, FaultData}
use Rattle.lift_base.specs.declared.TheConstants.{SOURCES}
use Rattle.std.proofs.lemmas.List.{length_push}
use Rattle.script_model.specs.Faults.{no_faults}
use Rattle.script_model.specs.Judging.{ScriptData}
use Rattle.can_log.specs.Taken.{LogData, first_or, frames_in}
use Rattle.can_log.specs.Scripts.{words_at, all_zero, input_at, inputs_to}
use Rattle.can_log.specs.Ahead.{front, rows_behind, IsAhead}
use Rattle.can_log.proofs.Going.{next_fronts, front_is, one_on, all_ahead, words_on, none_yet, one_more}
use Rattle.can_log.proofs.scripts.make_script.Goals as goal

pub loop-n-init : goal.loop-n-init
loop-n-init c =
    let made : c.in-Ok.made ≡ record { config = c.args.config; inputs = []; steps = [] } = c.in-Ok.ensures in
    record {
      config = ap (λ (s : ScriptData). s.config) made;
      steps = ap (λ (s : ScriptData). s.steps) made;
      inputs = ap (λ (s : ScriptData). s.inputs) made ∙ sym (none_yet c.args.log.now c.args.rows.now);
      many = ap (λ (s : ScriptData). length s.inputs) made;
      ahead = all_ahead c.args.log.now.ticks c.args.log.now.taken c.taken-ahead.result.now c.taken-ahead.ensures.value
          c.taken-ahead.ensures.sorted c.taken-ahead.ensures.reach;
      wires = λ m later. refl;
    }

pub front-frames-requires : goal.front-frames-requires
front-frames-requires c =
    let is = front_is c.loop-n.n c.args.log.now.taken c.loop-n.ahead.now c.loop-n.invariant.ahead in
    let P : List FrameData → Type 0 = λ fs. length fs ≤ MOST_FRAMES in
    subst P (sym is) (c.taken-ahead.ensures.few (c.loop-n.n + 1))

pub behind-ahead-requires : goal.behind-ahead-requires
behind-ahead-requires c =
    let f = next_fronts c.loop-n.n c.args.log.now.taken c.loop-n.ahead.now c.loop-n.invariant.ahead in
    omega (arith, f.within, c.len.ensures.value, ap length c.front-frames.ensures)

abbrev input : List FrameData → WireWords → List ℕ → FaultData → InputData
input fs w truth f = record { frames = fs; words = w; truth = truth; faults = f }

same_input : (fs fs' : List FrameData) (w w' : WireWords) (truth : List ℕ) (f f' : FaultData) → fs ≡ fs' → w ≡ w' → f ≡ f'
    → input fs w truth f ≡ input fs' w' truth f'
same_input fs fs' w w' truth f f' frames words faults =
    ap (λ (x : List FrameData). input x w truth f) frames ∙ ap (λ (x : WireWords). input fs' x truth f) words
    ∙ ap (λ (x : FaultData). input fs' w' truth x) faults

pub push-requires-clause-no_steps : goal.push-requires-clause-no_steps
push-requires-clause-no_steps c = c.loop-n.invariant.steps

pub loop-n-preserved : goal.loop-n-preserved
loop-n-preserved c =
    let log : LogData = c.args.log.now in
    let rows = c.args.rows.now in
    let n : ℕ = c.loop-n.n in
    let F : ℕ = first_or 0 log.first in
    let T : ℕ = log.taking.tick in
    let before : WireWords = record { a = c.loop-n.wires.a; b = c.loop-n.wires.b } in
    let words : WireWords = record { a = c.go_on-wires.result.a; b = c.go_on-wires.result.b } in
    let old_rows = c.loop-n.wires.rows.now in
    let said : words ≡ words_at F T (n + 1) before old_rows =
    c.go_on-wires.ensures.words ∙ ap (λ (f : ℕ). words_at f c.tick-tick.result (n + 1) before old_rows) c.first-first.ensures
    ∙ ap (λ (t : ℕ). words_at F t (n + 1) before old_rows) c.tick-tick.ensures.value in
    let left : c.go_on-wires.result.rows.now ≡ rows_behind F T (n + 1) old_rows =
    c.go_on-wires.ensures.rows ∙ ap (λ (f : ℕ). rows_behind f c.tick-tick.result (n + 1) old_rows) c.first-first.ensures
    ∙ ap (λ (t : ℕ). rows_behind F t (n + 1) old_rows) c.tick-tick.ensures.value in
    let on : (m : ℕ) → n + 1 ≤ m → words_at F T m all_zero rows ≡ words_at F T m words c.go_on-wires.result.rows.now = λ m later.
    c.loop-n.invariant.wires m (omega (arith, later)) ∙ words_on F T (n + 1) m before old_rows later
    ∙ ap (λ (w : WireWords). words_at F T m w (rows_behind F T (n + 1) old_rows)) (sym said)
    ∙ ap (words_at F T m words) (sym left) in
    let now : words ≡ words_at F T (n + 1) all_zero rows = said ∙ sym (c.loop-n.invariant.wires (n + 1) (omega arith)) in
    let frames : c.front-frames.result ≡ frames_in (n + 1) log.taken =
    c.front-frames.ensures ∙ front_is n log.taken c.loop-n.ahead.now c.loop-n.invariant.ahead in
    let count : c.len.result ≡ length (front (n + 1) c.loop-n.ahead.now) = c.len.ensures.value ∙ ap length c.front-frames.ensures in
    let y : InputData = input c.front-frames.result words (replicate SOURCES 0) c.no_faults.result in
    let is : y ≡ input_at log rows (n + 1) =
    same_input c.front-frames.result (frames_in (n + 1) log.taken) words (words_at F T (n + 1) all_zero rows) (replicate SOURCES 0)
    c.no_faults.result no_faults frames now c.no_faults.ensures in
    record {
      config = ap (λ (s : ScriptData). s.config) c.push.ensures ∙ c.loop-n.invariant.config;
      steps = ap (λ (s : ScriptData). s.steps) c.push.ensures ∙ c.loop-n.invariant.steps;
      inputs = ap (λ (s : ScriptData). s.inputs) c.push.ensures
          ∙ ap (λ (xs : List InputData). xs ++ y ∷ []) c.loop-n.invariant.inputs
          ∙ ap (λ (x : InputData). inputs_to log rows n ++ x ∷ []) is ∙ sym (one_more log rows n);
      many = omega (
        arith,
        ap
            (λ (s : ScriptData). length s.inputs) c.push.ensures,
        length_push c.loop-n.made.inputs y,
        c.loop-n.invariant.many,
      );
      ahead = subst (IsAhead (n + 1) log.taken)
          (sym (c.behind-ahead.ensures ∙ ap (λ (k : ℕ). drop k c.loop-n.ahead.now) count))
          (one_on n log.taken c.loop-n.ahead.now c.loop-n.invariant.ahead);
      wires = on;
    }
