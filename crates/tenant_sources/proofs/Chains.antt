-- Following links from a tenant to one of its sources.
use Rattle.std.proofs.Common.{◌≡◌, ◌⊎◌, ◌<◌, ◌-◌, ◌^◌, ℕ, true, ◌==◌, List, [], ◌∷◌, ◌++◌, length, Option, Some, None, is_some, inl, inr, sym, ap, subst, ◌∙◌, arith}
use Rattle.std.proofs.lemmas.Bool.{or_right}
use Rattle.std.proofs.lemmas.Bool.Decides.{nat_tests}
use Rattle.std.proofs.lemmas.List.{append_assoc, append-nil}
use Rattle.giotto_tasks.proofs.cited.ListLemmas.{some_same}
use Rattle.giotto_tasks.proofs.cited.TestLemmas.{either}
use Rattle.rig_model.specs.declared.events.Event.{Event}
use Rattle.tenant_sources.specs.declared.tables.Link.{Link}
use Rattle.rig_model.specs.Legal.{is_legal, next_tick}
use Rattle.tenant_sources.specs.Links.{IsChain, first_link, is_source_of}
use Rattle.rig_model.specs.Base.{Setting}
use Rattle.tenant_sources.proofs.FirstLinks.{leads, none_to_itself, own_source, source_is_linked, tick_fits}

module _ (setting : Setting) (past : List Event) (u : ℕ) where
  -- these links connect t to `at`, and links at ticks before this one connect `at` to u
  pub record IsWalked (t at before : ℕ) (links : List Link) : Type 0 where
    pub chained : (rest : List Link) → IsChain setting past before at u rest → IsChain setting past (2 ^ 64 - 1) t u (links ++ rest)
    pub within : at < length setting.config.tenants
    pub source : is_source_of setting past at u ≡ true
    pub early : (link : Link) → first_link setting past at u ≡ Some link → link.tick < before

  pub walk_begins : (t : ℕ) → is_legal setting past ≡ true → t < length setting.config.tenants → is_source_of setting past t u ≡ true → IsWalked t t (2 ^ 64 - 1) []
  walk_begins t legal within source = record {
    chained = λ rest h. h;
    within = within;
    source = source;
    early = λ link e. tick_fits setting past t u link legal e;
  }

  pub walk_on : (t at before : ℕ) (links : List Link) (link : Link) → IsWalked t at before links → first_link setting past at u ≡ Some link → IsWalked t link.supplier link.tick (links ++ link ∷ [])
  walk_on t at before links link w e =
      let l = leads setting past at u link e in
      record {
        chained = λ rest h. subst (IsChain setting past (2 ^ 64 - 1) t u) (sym (append_assoc links (link ∷ []) rest)) (w.chained (link ∷ rest) (e, w.early link e, h));
        within = l.within;
        source = source l.on;
        early = early l.on;
      }
    where
      source : ((link.supplier ≡ u) ⊎ ((next : Link) × (first_link setting past link.supplier u ≡ Some next) × (next.tick < link.tick))) → is_source_of setting past link.supplier u ≡ true
      source (inl same) = ap (λ v. is_source_of setting past v u) same ∙ own_source setting past u
      source (inr n) =
          source_is_linked setting past link.supplier u
          ∙ or_right (link.supplier == u) (is_some (first_link setting past link.supplier u)) (ap (λ (o : Option Link). is_some o) n.1)

      early : ((link.supplier ≡ u) ⊎ ((next : Link) × (first_link setting past link.supplier u ≡ Some next) × (next.tick < link.tick)))
          → (next : Link) → first_link setting past link.supplier u ≡ Some next → next.tick < link.tick
      early (inl same) next found = let none = sym (none_to_itself setting past u) ∙ (ap (λ v. first_link setting past v u) (sym same) ∙ found) in absurd (cc)
      early (inr n) next found = subst (λ (l : Link). l.tick < link.tick) (some_same n.0 next (sym n.1 ∙ found)) n.2

  earlier : (t : ℕ) (links : List Link) → IsChain setting past (2 ^ 64 - 1) t u links → IsChain setting past (next_tick setting past) t u links
  earlier t [] h = h
  earlier t (link ∷ rest) h = (h.0, (leads setting past t u link h.0).early, h.2)

  pub walk_ends : (t at before : ℕ) (links : List Link) → IsWalked t at before links → first_link setting past at u ≡ None → IsChain setting past (next_tick setting past) t u links
  walk_ends t at before links w e =
      let there : at ≡ u =
      either (at == u) (is_some (first_link setting past at u)) _ (sym (source_is_linked setting past at u) ∙ w.source) (λ h. grind (arith, nat_tests))
      (λ h. let no = sym (ap (λ (o : Option Link). is_some o) e) ∙ h in absurd (cc)) in
      earlier t links (subst (IsChain setting past (2 ^ 64 - 1) t u) (append-nil links) (w.chained [] there))
