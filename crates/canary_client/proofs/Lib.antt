mod PromiseLemmas
