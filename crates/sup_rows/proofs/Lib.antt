mod CaseLaws
