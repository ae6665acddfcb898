-- The first tokens of a spelled token list or of a prefix are a prefix.
use Rattle.std.proofs.Common.{◌≡◌, List, [], ◌∷◌, ◌++◌, refl}
use Rattle.giotto_text.specs.declared.tokens.Token.{Token}
use Rattle.giotto_text.specs.Grammar.{Part}
use Rattle.giotto_text.specs.Spelling.{SpellsParts, all_spelled, token_spelled, line_spelled, BeginsParts, none_left, token_begun, line_begun}

spelled_front : {zs : List Token} {ps : List Part} → SpellsParts zs ps → (ts us : List Token) → zs ≡ ts ++ us → BeginsParts ts ps
spelled_front all_spelled [] us e = none_left
spelled_front all_spelled (t ∷ ts) us e = absurd (cc)
spelled_front (token_spelled s) [] us e = none_left
spelled_front (token_spelled {t = u} {ts = zs} {ps = ps} s) (t ∷ ts) us e =
    let same : t ≡ u = cc in
    let rest : zs ≡ ts ++ us = cc in
    rw same (token_begun (spelled_front s ts us rest))
spelled_front (line_spelled w s) ts us e = line_begun w (spelled_front s ts us e)

pub begins_front : (ts us : List Token) (ps : List Part) → SpellsParts (ts ++ us) ps → BeginsParts ts ps
begins_front ts us ps s = spelled_front s ts us refl

pub begun_front : {zs : List Token} {ps : List Part} → BeginsParts zs ps → (ts us : List Token) → zs ≡ ts ++ us → BeginsParts ts ps
begun_front none_left [] us e = none_left
begun_front none_left (t ∷ ts) us e = absurd (cc)
begun_front (token_begun b) [] us e = none_left
begun_front (token_begun {t = u} {ts = zs} {ps = ps} b) (t ∷ ts) us e =
    let same : t ≡ u = cc in
    let rest : zs ≡ ts ++ us = cc in
    rw same (token_begun (begun_front b ts us rest))
begun_front (line_begun w b) ts us e = line_begun w (begun_front b ts us e)

pub prefix_front : (ts us : List Token) (ps : List Part) → BeginsParts (ts ++ us) ps → BeginsParts ts ps
prefix_front ts us ps b = begun_front b ts us refl
