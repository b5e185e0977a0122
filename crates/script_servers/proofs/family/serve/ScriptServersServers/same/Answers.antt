use Rattle.std.proofs.Common.{◌≡◌, ℕ, ap, arith}
use Rattle.script_servers.specs.Serving.{Player}
use Rattle.script_servers.proofs.Families.{family_long, both_past, same_from, same_to}
use Rattle.script_servers.proofs.Tables.{sites_decide}
use Rattle.script_servers.proofs.family.serve.ScriptServersServers.same.Goals as goal

pub returns-then-same_sites : goal.returns-then-same_sites
returns-then-same_sites c =
    let mine = family_long c.args.self.now _ c.if-site-ge16.false in
    let theirs = family_long c.args.other.now _ c.if-site-ge16.false in
    let sites = sites_decide c.args.self.now.sites.now c.args.other.now.sites.now _ c.eq-same_sites.ensures in
    record {
      state = (
        λ e. same_from _ _ _ _ _ _ _ mine c.index-mine.ensures theirs c.index-theirs.ensures (sites.0 c.if-same_sites.true) (c.eq.ensures.same.0 e),
        λ q. c.eq.ensures.same.1 (ap (λ (x : Player). x.script) (same_to _ _ _ _ _ _ _ mine c.index-mine.ensures theirs c.index-theirs.ensures q)),
      );
      beyond = both_past c.args.self.now c.args.other.now;
    }

pub returns-else-same_sites : goal.returns-else-same_sites
returns-else-same_sites c =
    let mine = family_long c.args.self.now _ c.if-site-ge16.false in
    let theirs = family_long c.args.other.now _ c.if-site-ge16.false in
    let sites = sites_decide c.args.self.now.sites.now c.args.other.now.sites.now _ c.eq-same_sites.ensures in
    record {
      state = (
        λ e. let z : ◌≡◌ {A = ℕ} 0 1 = cc in absurd (omega arith),
        λ q. sites.1 (ap (λ (x : Player). x.sites) (same_to _ _ _ _ _ _ _ mine c.index-mine.ensures theirs c.index-theirs.ensures q)),
      );
      beyond = both_past c.args.self.now c.args.other.now;
    }
