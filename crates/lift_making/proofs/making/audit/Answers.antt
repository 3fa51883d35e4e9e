use Rattle.std.proofs.Common.{◌≡◌, ◌∙◌, refl, ap, sym, subst}
use Rattle.std.specs.Prelude.{IfSome}
use Rattle.node_sim.specs.Audited.{audited}
use Rattle.replay_engine.specs.Engines.{run_of}
use Rattle.lift_run.specs.Records.{RunData}
use Rattle.script_model.specs.Audit.{IsOfSource, audit_text}
use Rattle.script_model.specs.declared.audits.Audit.{Audit}
use Rattle.lift_making.proofs.WholeRuns.{path_is_whole}
use Rattle.lift_making.proofs.AuditedRuns.{run_is_backed, audit_holds}
use Rattle.lift_making.proofs.making.audit.Goals as goal

pub audit_run-audit-requires : goal.audit_run-audit-requires
audit_run-audit-requires g c =
    let engine = c.in_ok-engine.engine in
    let script = c.args.script in
    let told : c.script.result.now ≡ script = c.script.ensures ∙ c.in_ok-engine.ensures.script in
    let path : c.path.result.now ≡ (run_of engine).path = c.path.ensures ∙ ap (λ (r : RunData). r.path) c.run.ensures.run in
    record {
      long = rw (told, path) (path_is_whole _ script _ _ c.in_ok-engine.ensures.ran);
      backed = rw (told, path) (run_is_backed _ script _ _ c.in_ok-engine.ensures.ran);
    }

pub returns : goal.returns
returns g c =
    let engine = c.in_ok-engine.engine in
    let script = c.args.script in
    let run = c.into_run.result in
    let same : run ≡ run_of engine = c.into_run.ensures.run in
    let told : c.script.result.now ≡ script = c.script.ensures ∙ c.in_ok-engine.ensures.script in
    let path : c.path.result.now ≡ run.path =
    c.path.ensures ∙ ap (λ (r : RunData). r.path) (c.run.ensures.run ∙ sym same) in
    let audit : c.audit_run-audit.result ≡ audited script.config script.inputs run.path.settled =
    c.audit_run-audit.ensures ∙ (rw (told, path) refl) in
    let holds = audit_holds _ script _ _ c.in_ok-engine.ensures.ran in
    record {
      makes = (
        rw same c.in_ok-engine.ensures.ran,
        λ whole. ap (λ (a : Audit). audit_text a run.path.settled) audit,
      );
      shown = subst (λ (a : Audit). IfSome a.wrong IsOfSource) (sym audit) holds.named;
    }
