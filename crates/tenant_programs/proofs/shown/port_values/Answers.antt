use Rattle.std.proofs.Common.{◌≡◌, map, subst, ap, ◌∙◌}
use Rattle.std.specs.Prelude.{IfOk}
use Rattle.std.specs.List.{zip}
use Rattle.rig_model.specs.rules.Ports.{ports_of}
use Rattle.tenant_programs.specs.inner.ShownPorts.{name_of_port, with_its_value}
use Rattle.tenant_programs.proofs.ShownPorts.{shown_values}
use Rattle.tenant_programs.proofs.shown.port_values.Goals as goal

pub returns : goal.returns
returns c =
    let p = c.args.checked.now in
    let values = c.args.values.now in
    let names = c.as_slice.ensures.value ∙ c.in_ok-names.ensures ∙ ap (λ q. map name_of_port (ports_of q)) c.program.ensures.tree in
    let pairs = ap (λ ns. map with_its_value (zip ns values)) names ∙ shown_values p values c.program.ensures.fits.ports_once c.requires in
    subst (λ vs. IfOk c.ports_with_values.result (λ all. all.items ≡ vs)) pairs c.ports_with_values.ensures
