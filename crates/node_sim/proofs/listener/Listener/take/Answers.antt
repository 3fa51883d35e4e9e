use Rattle.std.specs.Prelude.{◌==◌}
use Rattle.std.proofs.Common.{◌≡◌, false, true, refl, sym, ap, ◌∙◌, subst, cond, None, Some}
use Rattle.lift_model.specs.Live.{Timed, Source, is_plain}
use Rattle.node_sim.proofs.HeardLemmas.{not_its, same_frames, one_more_frame, heard_more, is_wrong_is}
use Rattle.node_sim.specs.Audited.{is_of, last_of}
use Rattle.node_sim.specs.Heard.{Heard, ending}
use Rattle.lift_model.specs.Bits.{or_else}
use Rattle.node_sim.specs.declared.listener.Listener.{Listener}
use Rattle.node_sim.proofs.listener.Listener.take.Goals as goal

pub returns-then-not-is_of : goal.returns-then-not-is_of
returns-then-not-is_of c source words frames h e =
    let y : Timed = c.args.came in
    let other : is_of source y ≡ false =
    ap (λ (s : Source). is_of s y) (sym h.asked)
    ∙ (ap (is_of c.args.self.now.asked) (sym c.came.view_is) ∙ (sym c.is_of.ensures ∙ c.if-not-is_of.true)) in
    (not_its source words frames y other, subst (Heard c.args.self.now source words) (sym (same_frames source frames y other)) h)

pub returns : goal.returns
returns c source words frames h e =
    let y : Timed = c.args.came in
    let old : Listener = c.args.self.now in
    let own : is_of source y ≡ true =
    ap (λ (s : Source). is_of s y) (sym h.asked)
    ∙ (ap (is_of old.asked) (sym c.came.view_is) ∙ (sym c.is_of.ensures ∙ c.if-not-is_of.false)) in
    let plain : c.is_plain.result ≡ is_plain old.asked y = c.is_plain.ensures
    ∙ (ap (λ (z : Timed). z.frame.id == c.asked.inside.plain) c.came-2.view_is
    ∙ ap (λ (k : Source). y.frame.id == k.plain) c.asked.view_is) in
    let pair : c.pair_of-self.result ≡ or_else (ending old.asked old.newest y) (cond (is_plain old.asked y) old.ended None) =
    c.pair_of-self.ensures ∙ (rw (c.ending-ended.ensures, plain) refl) in
    let more = one_more_frame source frames y own in (
      c.is_wrong-wrong.ensures ∙ (rw (c.ending-ended.ensures, h.asked, h.newest, h.word) (is_wrong_is source words (last_of frames) y)),
      subst (Heard (record {
        asked = c.args.self.now.asked;
        newest = Some c.args.came;
        word = c.args.word;
        ended = c.ending-ended.result;
        pair = c.pair_of-self.result;
      }) source words) (sym more)
          (heard_more old (record {
            asked = c.args.self.now.asked;
            newest = Some c.args.came;
            word = c.args.word;
            ended = c.ending-ended.result;
            pair = c.pair_of-self.result;
          }) source words frames y c.args.word h own e refl refl refl c.ending-ended.ensures pair),
    )
