use Rattle.pw_http.specs.declared.answering.Answering.{Answering}
use Rattle.pw_http.proofs.ManyTalks.{many-name, many-talks}
use Rattle.pw_http.proofs.answering.serve_all.Goals as goal

pub returns-clause-talks : goal.returns-clause-talks
returns-clause-talks g c = many-talks (λ (a : Answering _). a.service.ghost_name) (λ (a : Answering _). a.audience.now) (λ (a : Answering _). a.service.now) g.S.Service.serves _ _ _ _ c.serve_many.ensures.served

pub returns-clause-same : goal.returns-clause-same
returns-clause-same g c = many-name (λ (a : Answering _). a.service.ghost_name) (λ (a : Answering _). a.audience.now) (λ (a : Answering _). a.service.now) g.S.Service.serves _ _ _ _ c.serve_many.ensures.served
